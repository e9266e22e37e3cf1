-- Reading one stretch of a text back: its first byte says what it is, its digits the number, and a star the star.
-- Assumes nothing.
use Prim.Native.Nat.{ℕ, zero, suc, ◌≤◌}
use mathlib.Core.Path.{◌≡◌, refl}
use mathlib.Core.Bool.{Bool, true, false, cond, not, ◌||◌, false≢true}
use mathlib.Core.List.{List, [], ◌∷◌, ◌++◌}
use native.Mathlib.Omega.{arith}
use lib.Dec.{eqb}
use borrow.Author.Tests.{eqb-true}
use Rattle.number.specs.Digits.{digits, is_digit, value}
use Rattle.rules.specs.Reduced.{dash, slash, bar, Item, run, gap, sign, sum}
use Rattle.rules.specs.Texts.{word, mark, star}
use Rattle.number.proofs.Split.{split}
use Rattle.number.proofs.Each.{none, ◌&◌, each_append, each_map, All, Some, some-append}
use Rattle.number.proofs.Read.{value-digits, digits-all, digits-some}

-- the first byte, 0 if it is a digit
abbrev lead : List ℕ → ℕ
lead [] = 0
lead (x ∷ xs) = cond (is_digit x) 0 x

-- the second byte, likewise
abbrev second : List ℕ → ℕ
second [] = 0
second (x ∷ xs) = lead xs

-- is there a star?
abbrev starred : List ℕ → Bool
starred [] = false
starred (x ∷ xs) = cond (is_digit x) (starred xs) (eqb x 42 || starred xs)

-- the class that a first byte marks, 0 for none
abbrev class_by : ℕ → ℕ
class_by x = cond (eqb x 0) 1 (cond (eqb x 126) 2 (cond (eqb x 92) 3 (cond (eqb x 61) 4 0)))

-- what is no run, by its first two bytes x and y; "-" stands for d
abbrev no_run : Item → ℕ → ℕ → ℕ → List Item → List Item
no_run d x y n is =
    cond (eqb x 40) (gap n ∷ is)
    (cond (eqb x 45) (d ∷ is)
    (cond (eqb x 47) (sign slash ∷ is)
    (cond (eqb x 124 || eqb y 124) (sign bar ∷ is) is)))

-- the items of a stretch w and of those after it, `is`
abbrev pub read : Item → List ℕ → List Item → List Item
read d w is = cond (eqb (class_by (lead w)) 0) (no_run d (lead w) (second w) (value 0 w) is) (run (class_by (lead w)) (value 0 w) (starred w) ∷ is)

lead-all : (ds xs : List ℕ) → Some ds → All is_digit true ds → lead (ds ++ xs) ≡ 0
lead-all [] xs s h = absurd s
lead-all (d ∷ ds) xs s (h & hs) = rw h

starred-all : (ds xs : List ℕ) → All is_digit true ds → starred (ds ++ xs) ≡ starred xs
starred-all [] xs h = refl
starred-all (d ∷ ds) xs (h & hs) = rw h (starred-all ds xs hs)

lead-digits : (n : ℕ) (xs : List ℕ) → lead (digits n ++ xs) ≡ 0
lead-digits n xs = lead-all (digits n) xs (digits-some n) (digits-all n)

starred-digits : (n : ℕ) (xs : List ℕ) → starred (digits n ++ xs) ≡ starred xs
starred-digits n xs = starred-all (digits n) xs (digits-all n)

ruleset by_digits = (lead-digits, starred-digits, value-digits)

pub read-piece : (d : Item) (n : ℕ) (s : Bool) (is : List Item) → read d (digits n ++ star s) is ≡ run 1 n s ∷ is
read-piece d n true is = simp by_digits
read-piece d n false is = simp by_digits

pub read-gap : (d : Item) (n : ℕ) (is : List Item) → read d (word (gap n)) is ≡ gap n ∷ is
read-gap d n is = simp by_digits

-- what an SN text can show: a run of class 1 to 4, a break, a sign
abbrev pub Fine : Item → Type 0
Fine (run zero n s) = ⊥
Fine (run (suc c) n s) = c ≤ 3
Fine (gap n) = Unit {0}
Fine (sign s) = Unit {0}
Fine (sum n) = ⊥

pub read_word : (i : Item) (is : List Item) → Fine i → read (sign dash) (word i) is ≡ i ∷ is
read_word (run zero n s) is f = absurd f
read_word (run (suc zero) n s) is f = read-piece (sign dash) n s is
read_word (run (suc (suc zero)) n true) is f = simp by_digits
read_word (run (suc (suc zero)) n false) is f = simp by_digits
read_word (run (suc (suc (suc zero))) n true) is f = simp by_digits
read_word (run (suc (suc (suc zero))) n false) is f = simp by_digits
read_word (run (suc (suc (suc (suc zero)))) n true) is f = simp by_digits
read_word (run (suc (suc (suc (suc zero)))) n false) is f = simp by_digits
read_word (run (suc (suc (suc (suc (suc c))))) n s) is f = absurd (omega arith)
read_word (gap n) is f = read-gap (sign dash) n is
read_word (sign dash) is f = refl
read_word (sign slash) is f = refl
read_word (sign bar) is f = refl
read_word (sum n) is f = absurd f

-- no space: a byte of an SN item
abbrev pub solid : ℕ → Bool
solid x = not (eqb x 32)

-- a digit, a star or a parenthesis: a byte of a piece, or of a gap's number
abbrev pub figure : ℕ → Bool
figure x = is_digit x || (eqb x 42 || (eqb x 40 || eqb x 41))

digit-solid : (x : ℕ) → is_digit x ≡ true → solid x ≡ true
digit-solid x h = split (eqb x 32) (λ e. absurd (false≢true (rw (eqb-true x 32 e) at h))) (λ e. rw e)

digits-solid : (n : ℕ) → All solid true (digits n)
digits-solid n = each_map digit-solid (digits-all n)

digits-figure : (n : ℕ) → All figure true (digits n)
digits-figure n = each_map (λ x h. rw h) (digits-all n)

pub piece-figure : (n : ℕ) (s : Bool) → All figure true (digits n ++ star s)
piece-figure n true = each_append (digits-figure n) (refl & none)
piece-figure n false = each_append (digits-figure n) none

pub gap-figure : (n : ℕ) → All figure true (word (gap n))
gap-figure n = refl & each_append (digits-figure n) (refl & none)

mark-solid : (c : ℕ) → All solid true (mark c)
mark-solid zero = none
mark-solid (suc zero) = none
mark-solid (suc (suc zero)) = refl & none
mark-solid (suc (suc (suc zero))) = refl & none
mark-solid (suc (suc (suc (suc c)))) = refl & none

star-solid : (s : Bool) → All solid true (star s)
star-solid true = refl & none
star-solid false = none

-- an SN item has no space
pub word-solid : (i : Item) → All solid true (word i)
word-solid (run c n s) = each_append (mark-solid c) (each_append (digits-solid n) (each_append (mark-solid c) (star-solid s)))
word-solid (gap n) = refl & each_append (digits-solid n) (refl & none)
word-solid (sign dash) = refl & none
word-solid (sign slash) = refl & none
word-solid (sign bar) = refl & none
word-solid (sum n) = none

mark-some : (c : ℕ) (xs : List ℕ) → Some xs → Some (mark c ++ xs)
mark-some zero xs h = h
mark-some (suc zero) xs h = h
mark-some (suc (suc zero)) xs h = tt
mark-some (suc (suc (suc zero))) xs h = tt
mark-some (suc (suc (suc (suc c)))) xs h = tt

pub number-some : (n : ℕ) (xs : List ℕ) → Some (digits n ++ xs)
number-some n xs = some-append (digits n) xs (digits-some n)

-- an SN item has some byte
pub word_some : (i : Item) → Fine i → Some (word i)
word_some (run c n s) f = mark-some c _ (number-some n _)
word_some (gap n) f = tt
word_some (sign dash) f = tt
word_some (sign slash) f = tt
word_some (sign bar) f = tt
word_some (sum n) f = absurd f
