-- From what was read and what was written to what stood in the input. Nothing here speaks of code.
-- Assumes nothing.
use Rattle.std.proofs.Common.{◌≡◌, ℕ, ◌<◌, ◌≤◌, List, [], ◌++◌, length, take, drop, replicate, refl, sym, ap, ◌∙◌, subst, arith, inl, inr}
use Rattle.std.proofs.lemmas.List.{take_at, length-take-le, append-nil, length-append}
use Rattle.std.proofs.lemmas.Bool.{cases_lt}
use Rattle.std.specs.Prelude.{Option, None, Some, IfSome}
use Rattle.std.specs.Io.KnownBytes.{Consumes, IsAtEnd, Appends}
use Rattle.sheet_lines.specs.Sheet.{sheet_bytes, Printed}
use Rattle.sheet_lines.specs.declared.Sheet.{Sheet}
use Rattle.sheet_lines.proofs.Reading.{too_long}

-- the bytes that are lent to be written
pub printed : {input : List ℕ} {r : Sheet} → Printed input r → take r.length r.bytes ≡ sheet_bytes input
printed {input} {r} p =
    let xs = sheet_bytes input in
    rw p.answer (take_at xs (drop (length xs) (replicate 66048 0)) (length xs) refl)

-- an input of which 16,385 bytes were read, or all there are, has the sheet of what was read
same_sheet : (read ys : List ℕ) → (length read < 16385 → ys ≡ []) → sheet_bytes read ≡ sheet_bytes (read ++ ys)
same_sheet read ys ended = elim (cases_lt (length read) 16385) [
  | inl l ↦ ap sheet_bytes (sym (append-nil read) ∙ ap (λ zs. read ++ zs) (sym (ended l)))
  | inr l ↦ too_long read (omega arith) ∙ sym (too_long (read ++ ys) (omega (arith, length-append read ys)))
]

-- `read` is what a reader gave, up to its end or 16,385 bytes, and a writer took the sheet of it
whole : (old new a b : Option (List ℕ)) (read : List ℕ) → Consumes old new read → (length read < 16385 → IsAtEnd new)
    → Appends a b (sheet_bytes read) → IfSome old (λ given. Appends a b (sheet_bytes given))
whole None new a b read p ended w = tt
whole (Some xs) None a b read p ended w = absurd p
whole (Some xs) (Some ys) a b read p ended w = subst (λ zs. Appends a b zs) (same_sheet read ys ended ∙ ap sheet_bytes (sym p)) w

-- the same of the first n places of a slice of 16,385 that a reader gave, and of the bytes that were written
pub copied : (old new a b : Option (List ℕ)) (space : List ℕ) (n : ℕ) (r : Sheet) → length space ≡ 16385 → n ≤ length space
    → Consumes old new (take n space) → (n < length space → IsAtEnd new) → Printed (take n space) r → Appends a b (take r.length r.bytes)
    → IfSome old (λ given. Appends a b (sheet_bytes given))
copied old new a b space n r full within p ended q w =
    let e = length-take-le n space within in
    whole old new a b (take n space) p (λ l. ended (omega (arith, e))) (subst (λ zs. Appends a b zs) (printed q) w)
