-- Digits can be read back, so two numbers with the same digits are the same. What is read is said with any bytes after the
-- digits: then no law of `++` is needed.
-- Assumes nothing.
use Prim.Native.Nat.{ℕ, zero, suc, ◌+◌, ◌*◌, ◌/◌, ◌%◌, ◌≤◌, ◌<◌}
use mathlib.Core.Path.{◌≡◌, refl, sym, ap, ◌∙◌}
use mathlib.Core.Bool.{true}
use mathlib.Core.List.{List, [], ◌∷◌, ◌++◌, append_assoc}
use native.Mathlib.Omega.{arith}
use lib.Dec.{ltb}
use borrow.Author.Tests.{ltb-true, ltb-false, le-leb}
use Rattle.number.specs.Digits.{digits_in, digits, is_digit, value}
use Rattle.number.proofs.Split.{split}
use Rattle.number.proofs.Each.{none, ◌&◌, each_append, All, Some, some-append}

is_digit_lem : (d : ℕ) → d < 10 → is_digit (48 + d) ≡ true
is_digit_lem d h = rw (le-leb 48 (48 + d) (omega arith), le-leb (48 + d) 57 (omega arith))

value-digit : (v d w : ℕ) (xs : List ℕ) → d < 10 → 10 * v + d ≡ w → value v ((48 + d) ∷ xs) ≡ value w xs
value-digit v d w xs h e = rw (is_digit_lem d h) (ap (λ (u : ℕ). value u xs) (omega arith))

value_in : (k n : ℕ) (xs : List ℕ) → n ≤ k → value 0 (digits_in k n ++ xs) ≡ value n xs
value_in zero n xs h = value-digit 0 n n xs (omega arith) (omega arith)
value_in (suc k) n xs h =
    split (ltb n 10)
    (λ e. rw e (value-digit 0 n n xs (ltb-true n 10 e) (omega arith)))
    (λ e. rw (e, append_assoc) (value_in k (n / 10) ((48 + n % 10) ∷ xs) (omega arith) ∙ value-digit (n / 10) (n % 10) n xs (omega arith) (omega arith)))

all_in : (k n : ℕ) → n ≤ k → All is_digit true (digits_in k n)
all_in zero n h = is_digit_lem n (omega arith) & none
all_in (suc k) n h =
    split (ltb n 10)
    (λ e. rw e (is_digit_lem n (ltb-true n 10 e) & none))
    (λ e. rw e (each_append (all_in k (n / 10) (omega arith)) (is_digit_lem (n % 10) (omega arith) & none)))

some_in : (k n : ℕ) → Some (digits_in k n)
some_in zero n = tt
some_in (suc k) n = split (ltb n 10) (λ e. rw e tt) (λ e. rw e (some-append (digits_in k (n / 10)) _ (some_in k (n / 10))))

module _ (n : ℕ) where
  pub value-digits : (xs : List ℕ) → value 0 (digits n ++ xs) ≡ value n xs
  unfolding digits
  value-digits xs = value_in n n xs (omega arith)

  -- each byte of a number is one of 48 to 57
  pub digits-all : All is_digit true (digits n)
  unfolding digits
  digits-all = all_in n n (omega arith)

  pub digits-some : Some (digits n)
  unfolding digits
  digits-some = some_in n n

pub digits-injective : (m n : ℕ) → digits m ≡ digits n → m ≡ n
digits-injective m n e = sym (value-digits m []) ∙ ap (λ (ds : List ℕ). value 0 (ds ++ [])) e ∙ value-digits n []

-- ---- no leading zero

abbrev pub first : List ℕ → ℕ
first [] = 0
first (x ∷ xs) = x

first-append : (xs ys : List ℕ) → Some xs → first (xs ++ ys) ≡ first xs
first-append [] ys h = absurd h
first-append (x ∷ xs) ys h = refl

first-in : (k n : ℕ) → 1 ≤ n → 48 < first (digits_in k n)
first-in zero n h = omega arith
first-in (suc k) n h =
    split (ltb n 10)
    (λ e. rw e (omega arith))
    (λ e. rw (e, first-append (digits_in k (n / 10)) _ (some_in k (n / 10))) (first-in k (n / 10) (omega (arith, ltb-false n 10 e))))

-- 48 is "0"
pub no-leading-zero : (n : ℕ) → 1 ≤ n → 48 < first (digits n)
unfolding digits
no-leading-zero n h = first-in n n h

pub digits-zero : digits 0 ≡ 48 ∷ []
unfolding digits
digits-zero = refl
