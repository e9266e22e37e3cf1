-- The line of a refusal, and what is put at the slice's start.
-- Assumes nothing.
use Prim.Native.Nat.{ℕ, ◌^◌, ◌<◌, ◌≤◌}
use mathlib.Core.List.{List, [], ◌∷◌}
use native.Mathlib.Omega.{arith}
use lib.ListN.{length, length-append}
use Rattle.number.specs.Digits.{digits}
use Rattle.number.specs.Place.{Room, Wrote}
use Rattle.number.proofs.Digits.{at_most}
use Rattle.number.proofs.Place.{at-start}
use Rattle.sheet_lines.specs.Steps.{AtStart, Roomy, refusal_line}

-- a u32 has at most ten digits
pub number_short : (n : ℕ) → n < 2 ^ 32 → length (digits n) ≤ 10
number_short n h = at_most 10 n (omega arith) (omega arith)

pub refusal-room : {out : List ℕ} (n : ℕ) → Roomy out → n < 2 ^ 32 → Room out 0 (refusal_line n)
refusal-room n r h = record { fits = omega (arith, r.most, length-append (digits n) (10 ∷ []), number_short n h) }

-- what is put at the slice's start
pub started : {old new xs : List ℕ} {r : ℕ} → Room old 0 xs → Wrote old new 0 xs r → AtStart old new xs r
started {old} {new} {xs} {r} h w =
    let s = at-start xs old new r (omega (arith, h.fits)) w in
    record { number = s.0; bytes = s.1 }
