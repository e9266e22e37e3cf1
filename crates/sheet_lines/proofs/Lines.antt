-- What `sheet` prints for an accepted record stands line by line: the name has no byte 0A, as the counts line has none (counts_line/proofs/Lines).
-- Assumes nothing.
use Prim.Native.Nat.{ℕ, zero, suc}
use mathlib.Core.Path.{◌≡◌, refl}
use mathlib.Core.Bool.{true, false, ◌&&◌, and-eq-true_iff}
use mathlib.Core.List.{List, [], ◌∷◌, ◌++◌}
use native.Mathlib.Omega.{arith}
use lib.Dec.{leb, eqb}
use lib.ListN.{length}
use borrow.Author.Tests.{leb-true, eqb-true}
use Rattle.number.specs.Questions.{first_no, accepted}
use Rattle.number.proofs.Split.{split}
use Rattle.number.proofs.Each.{none, ◌&◌}
use Rattle.rules.specs.Chart.{classes, counts}
use Rattle.rules.proofs.Lines.{OneLine}
use Rattle.counts_line.specs.CountsLine.{line, counts_line}
use Rattle.record.specs.Record.{Fields, end, head_cut, payload_cut, whole, fields_of, printable, is_name, field_no, fields_no, name_of, record_no}
use Rattle.stream_outputs.specs.Promises.{pass_no}
use Rattle.sheet_lines.specs.Sheet.{input_fits, places, text_bytes, total_bytes, first_refusal, chart_of, total_no, sheet_no}
use Rattle.sheet_lines.specs.Sheet.{sheet_kinds, text_lines, sheet_bytes}

-- ---- the name

printable-line : (bytes : List ℕ) → printable bytes ≡ true → OneLine bytes
printable-line [] h = none
printable-line (b ∷ bytes) h =
    let t = (and-eq-true_iff (leb 32 b && leb b 126) (printable bytes)).0 h in
    let low = leb-true 32 b ((and-eq-true_iff (leb 32 b) (leb b 126)).0 t.0).0 in
    split (eqb b 10) (λ e. absurd (omega (arith, eqb-true b 10 e, low))) (λ e. e) & printable-line bytes t.1

name-printable : (p : List ℕ) → is_name p ≡ true → printable p ≡ true
name-printable p h = ((and-eq-true_iff (leb 1 (length p) && leb (length p) 64) (printable p)).0 h).1

named-field : (t : ℕ) (p : List ℕ) → eqb t 1 ≡ true → field_no true t p ≡ 0 → OneLine p
unfolding field_no
named-field t p one h = split (is_name p) (λ e. printable-line p (name-printable p e)) (λ e. absurd (omega (arith, rw (one, e) at h)))

first-zero : (n k : ℕ) → accepted n k n ≡ 0 → n ≡ 0
first-zero zero k h = refl
first-zero (suc n) k h = h

name-line : (fs : Fields) → fields_no true fs ≡ 0 → OneLine (name_of fs)
name-line end h = none
name-line head_cut h = none
name-line payload_cut h = none
name-line (whole t p fs) h =
    split (eqb t 1)
    (λ e. rw e (named-field t p e (first-zero (field_no true t p) (fields_no false fs) h)))
    (λ e. rw e none)

-- ---- an accepted record

second-zero : (x y z w : ℕ) → first_refusal (x ∷ y ∷ z ∷ w ∷ []) ≡ 0 → y ≡ 0
second-zero zero zero z w h = refl
second-zero zero (suc y) z w h = h
second-zero (suc x) y z w h = absurd (omega (arith, h))

module _ (input : List ℕ) (yes : sheet_no input ≡ 0) where
  record-zero : record_no input places ≡ 0
  unfolding sheet_no
  record-zero =
      let m = chart_of input in
      second-zero (first_no (input_fits input ∷ [])) (record_no input places) (pass_no m places places text_bytes) (total_no m total_bytes) yes

  pub one-line-name : OneLine (name_of (fields_of input))
  unfolding record_no
  one-line-name = name-line (fields_of input) (first-zero (fields_no true (fields_of input)) _ record-zero)

  pub sheet-lines :
      sheet_bytes input
      ≡ line (name_of (fields_of input)) ++ (line (counts_line (counts (classes (chart_of input)))) ++ text_lines sheet_kinds (chart_of input))
  unfolding sheet_bytes
  sheet-lines = rw yes
