-- The class of a density as a digit of one number.
-- Assumes nothing.
use Prim.Native.Nat.{ℕ, zero, suc, ◌*◌, ◌/◌, ◌%◌, ◌^◌, ◌<◌, min}
use mathlib.Core.Path.{◌≡◌, refl}
use mathlib.Core.Bool.{Bool, true, ◌&&◌, and-eq-true_iff}
use native.Mathlib.Omega.{arith}
use lib.Dec.{eqb, leb}
use borrow.Author.Tests.{eqb-true, eqb-false, leb-true, leb-false}
use Rattle.number.proofs.Split.{split}
use Rattle.rules.specs.Chart.{class_of}
use Rattle.rules.proofs.Steps.{class-4}

-- 433210000 in base sixteen, shifted by a digit for every four densities below e
abbrev digit : ℕ → ℕ
digit e = 18037669888 / 2 ^ (4 * (e / 4)) % 16

-- at each density below n the digit is the class
abbrev agrees : ℕ → Bool
agrees zero = true
agrees (suc n) = eqb (digit n) (class_of n) && agrees n

at_each : (n : ℕ) → agrees n ≡ true → (e : ℕ) → e < n → digit e ≡ class_of e
at_each zero t e h = absurd (omega arith)
at_each (suc n) t e h =
    let both = (and-eq-true_iff (eqb (digit n) (class_of n)) (agrees n)).0 t in
    split (eqb e n)
    (λ q. rw (eqb-true e n q) (eqb-true (digit n) (class_of n) both.0))
    (λ q. at_each n both.1 e (omega (arith, eqb-false e n q)))

-- above 32 the class is that of 32
pub digit_lem : (d : ℕ) → digit (min d 32) ≡ class_of d
unfolding class_of
digit_lem d =
    split (leb d 32)
    (λ e. let h = leb-true d 32 e in let q : min d 32 ≡ d = omega arith in rw q (at_each 33 refl d (omega arith)))
    (λ e. let h = leb-false d 32 e in let q : min d 32 ≡ 32 = omega arith in rw (q, class-4 d (omega arith)) refl)
