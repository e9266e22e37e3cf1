-- Laws of `padded`: how long it is, where nothing is put before the digits, and that it can be read back.
-- Assumes nothing.
use Prim.Native.Nat.{ℕ, zero, suc, ◌+◌, ◌-◌, ◌≤◌}
use mathlib.Core.Path.{◌≡◌, refl, sym, ap, ◌∙◌}
use mathlib.Core.List.{List, [], ◌++◌, append-nil}
use native.Mathlib.Nat.{sub-eq-zero_of_le}
use native.Mathlib.Omega.{arith}
use lib.ListN.{length, replicate, length-append, length-replicate}
use Rattle.number.specs.Digits.{digits, padded, value}
use Rattle.number.proofs.Read.{value-digits}

-- spaces are passed over
value-spaces : (k : ℕ) (xs : List ℕ) → value 0 (replicate k 32 ++ xs) ≡ value 0 xs
value-spaces zero xs = refl
value-spaces (suc k) xs = value-spaces k xs

module _ (width n : ℕ) where
  pub padded-length : length (padded width n) ≡ (width - length (digits n)) + length (digits n)
  unfolding padded
  padded-length = simp (length-append, length-replicate)

  -- as it is put, its digits counted
  pub padded-parts : {count spaces : ℕ} → count ≡ length (digits n) → spaces ≡ width - count → padded width n ≡ replicate spaces 32 ++ digits n
  unfolding padded
  padded-parts c s = rw (s, c)

  pub padded-narrow : width ≤ length (digits n) → padded width n ≡ digits n
  unfolding padded
  padded-narrow h = rw (sub-eq-zero_of_le h)

  value-padded : value 0 (padded width n) ≡ n
  unfolding padded
  value-padded = value-spaces (width - length (digits n)) (digits n) ∙ ap (value 0) (sym (append-nil (digits n))) ∙ value-digits n []

-- at width 0 the digits stand alone
pub padded-none : (n : ℕ) → padded 0 n ≡ digits n
padded-none n = padded-narrow 0 n (omega arith)

pub padded-injective : (width m n : ℕ) → padded width m ≡ padded width n → m ≡ n
padded-injective width m n e = sym (value-padded width m) ∙ ap (value 0) e ∙ value-padded width n
