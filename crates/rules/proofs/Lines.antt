-- No text has the byte 0A, so each stands in one line.
-- Assumes nothing.
use Prim.Native.Nat.{ℕ, zero, suc}
use mathlib.Core.Path.{◌≡◌, refl}
use mathlib.Core.Bool.{Bool, true, false, false≢true}
use mathlib.Core.List.{List, [], ◌∷◌, ◌++◌}
use lib.Dec.{eqb}
use borrow.Author.Tests.{eqb-true}
use Rattle.number.specs.Digits.{digits, is_digit}
use Rattle.number.proofs.Split.{split}
use Rattle.number.proofs.Each.{none, ◌&◌, each_append, each_map, All}
use Rattle.number.proofs.Read.{digits-all}
use Rattle.rules.specs.Bytes.{bytes}
use Rattle.rules.specs.Chart.{classes}
use Rattle.rules.specs.Reduced.{Sign, dash, slash, bar, Item, run, gap, sign, sum, Kind, sn, standard, reduced}
use Rattle.rules.specs.Texts.{mark, star, sn_sign, standard_sign, word, part, strung, render, text}

abbrev pub newline : ℕ → Bool
newline b = eqb b 10

-- bytes of one line
abbrev pub OneLine : List ℕ → Type 0
OneLine = All newline false

digit-line : (x : ℕ) → is_digit x ≡ true → newline x ≡ false
digit-line x h = split (eqb x 10) (λ e. absurd (false≢true (rw (eqb-true x 10 e) at h))) (λ e. rw e)

pub digits-line : (n : ℕ) → OneLine (digits n)
digits-line n = each_map digit-line (digits-all n)

mark-line : (c : ℕ) → OneLine (mark c)
mark-line zero = none
mark-line (suc zero) = none
mark-line (suc (suc zero)) = refl & none
mark-line (suc (suc (suc zero))) = refl & none
mark-line (suc (suc (suc (suc c)))) = refl & none

star-line : (s : Bool) → OneLine (star s)
star-line true = refl & none
star-line false = none

sn-line : (s : Sign) → OneLine (sn_sign s)
sn-line dash = refl & none
sn-line slash = refl & none
sn-line bar = refl & none

standard-line : (s : Sign) → OneLine (standard_sign s)
standard-line dash = refl & none
standard-line slash = refl & none
standard-line bar = refl & refl & refl & none

word_line : (i : Item) → OneLine (word i)
word_line (run c n s) = each_append (mark-line c) (each_append (digits-line n) (each_append (mark-line c) (star-line s)))
word_line (gap n) = refl & each_append (digits-line n) (refl & none)
word_line (sign s) = sn-line s
word_line (sum n) = none

part-line : (i : Item) → OneLine (part i)
part-line (run c n s) = each_append (digits-line n) (star-line s)
part-line (gap n) = split (eqb n 1) (λ e. rw e (refl & none)) (λ e. rw e (refl & each_append (word_line (gap n)) (refl & none)))
part-line (sign s) = standard-line s
part-line (sum n) = each_append (digits-line n) (refl & refl & refl & refl & refl & refl & none)

strung-line : (f : Item → List ℕ) → ((i : Item) → OneLine (f i)) → (is : List Item) → OneLine (strung f is)
strung-line f h [] = none
strung-line f h (i ∷ is) = each_append (h i) (strung-line f h is)

render-line : (k : Kind) (is : List Item) → OneLine (render k is)
unfolding render
render-line (sn m) [] = none
render-line (sn m) (i ∷ is) = each_append (word_line i) (strung-line (λ j. bytes " " ++ word j) (λ j. refl & word_line j) is)
render-line (standard l) [] = refl & refl & refl & refl & refl & refl & refl & refl & refl & refl & refl & none
render-line (standard l) (i ∷ is) = strung-line part part-line (i ∷ is)

pub text-line : (k : Kind) (m : List ℕ) → OneLine (text k m)
unfolding text
text-line k m = render-line k (reduced k (classes m))
