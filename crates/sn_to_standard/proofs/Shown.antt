-- The words of a text, and the run or break that a word shows.
-- Assumes nothing.
use Prim.Native.Nat.{ℕ, zero, suc, ◌≤◌}
use mathlib.Core.Path.{◌≡◌, refl, ap, ◌∙◌}
use mathlib.Core.Bool.{true, false, cond, and-eq-true_iff, false≢true}
use mathlib.Core.List.{List, [], ◌∷◌, ◌++◌, append-nil}
use native.Mathlib.Omega.{arith}
use lib.Dec.{leb, eqb}
use borrow.Author.Tests.{eqb-true, leb-true, le-leb, ne_eqb, not-true}
use Rattle.number.specs.Digits.{digits, is_digit, value}
use Rattle.number.proofs.Split.{split, never}
use Rattle.number.proofs.Each.{none, ◌&◌, All, Some}
use Rattle.number.proofs.Read.{value-digits, digits-all, digits-some}
use Rattle.rules.specs.Bytes.{same_bytes}
use Rattle.rules.specs.Chart.{Token, token}
use Rattle.rules.specs.Reduced.{run, gap, item}
use Rattle.rules.specs.Texts.{word}
use Rattle.rules.proofs.Bytes.{bytes_same, same_bytes_lem}
use Rattle.rules.proofs.Words.{solid}
use Rattle.sn_to_standard.specs.Reader.{words, first_class, shown, is_run, is_break}
use Rattle.sn_to_standard.specs.Laws.{Run}

-- ---- words

pub words_more : (w rest : List ℕ) → All solid true w → words (w ++ (32 ∷ rest)) ≡ w ∷ words rest
words_more [] rest h = refl
words_more (x ∷ w) rest (h & hs) = rw (not-true (eqb x 32) h, words_more w rest hs)

pub words_last : (w : List ℕ) → All solid true w → words w ≡ w ∷ []
words_last [] h = refl
words_last (x ∷ w) (h & hs) = rw (not-true (eqb x 32) h, words_last w hs)

-- what may stand behind a word: nothing, or a space
abbrev pub Parted : List ℕ → Type 0
Parted [] = Unit {0}
Parted (x ∷ xs) = x ≡ 32

-- the words behind it
abbrev pub after_words : List ℕ → List (List ℕ)
after_words [] = []
after_words (x ∷ xs) = words xs

-- a text's first word, and what stands behind it
pub record FirstWord (xs : List ℕ) : Type 0 where
  pub w : List ℕ
  pub rest : List ℕ
  pub whole : xs ≡ w ++ rest
  pub parted : Parted rest
  pub solid-all : All solid true w
  pub split-as : words xs ≡ w ∷ after_words rest

pub first_word : (xs : List ℕ) → FirstWord xs
first_word [] = record { w = []; rest = []; whole = refl; parted = tt; solid-all = none; split-as = refl }
first_word (x ∷ xs) =
    let f = first_word xs in
    split (eqb x 32)
    (λ e. record { w = []; rest = x ∷ xs; whole = refl; parted = eqb-true x 32 e; solid-all = none; split-as = rw e })
    (λ e. record { w = x ∷ f.w; rest = f.rest; whole = (cc); parted = f.parted; solid-all = (rw e) & f.solid-all; split-as = rw (e, f.split-as) })

-- ---- what a word shows

digit-other : (x y : ℕ) → is_digit x ≡ true → is_digit y ≡ false → eqb x y ≡ false
digit-other x y g h = ne_eqb x y (λ e. never (cc))

digit-first : (ds rest : List ℕ) → Some ds → All is_digit true ds → first_class (ds ++ rest) ≡ 1
digit-first [] rest s h = absurd s
digit-first (x ∷ ds) rest s (h & hs) = rw (digit-other x 40 h refl, digit-other x 126 h refl, digit-other x 92 h refl, digit-other x 61 h refl)

pub first-class : (c n : ℕ) (rest : List ℕ) → Run c n → first_class (word (run c n false) ++ rest) ≡ c
first-class zero n rest r = absurd (omega (arith, r.class-least))
first-class (suc zero) n rest r = rw (append-nil (digits n)) (digit-first (digits n) rest (digits-some n) (digits-all n))
first-class (suc (suc zero)) n rest r = refl
first-class (suc (suc (suc zero))) n rest r = refl
first-class (suc (suc (suc (suc zero)))) n rest r = refl
first-class (suc (suc (suc (suc (suc c))))) n rest r = absurd (omega (arith, r.class-most))

value-run : (c n : ℕ) → value 0 (word (run c n false)) ≡ n
value-run zero n = value-digits n []
value-run (suc zero) n = value-digits n []
value-run (suc (suc zero)) n = value-digits n (126 ∷ [])
value-run (suc (suc (suc zero))) n = value-digits n (92 ∷ [])
value-run (suc (suc (suc (suc c)))) n = value-digits n (61 ∷ [])

-- a word shows the token t, if its first byte and its digits tell t, and it is how t is written
shown_by : (w : List ℕ) (t : Token) → token (first_class w) (value 0 w) false ≡ t → w ≡ word (item gap t) → shown w ≡ t
shown_by w t e g = ap (λ (t : Token). cond (same_bytes w (word (item gap t))) t (token 1 0 false)) e ∙ rw (← g, bytes_same w)

pub run-item : (c n : ℕ) → Run c n → item gap (token c n false) ≡ run c n false
run-item zero n r = absurd (omega (arith, r.class-least))
run-item (suc c) n r = refl

pub shown-run : (c n : ℕ) → Run c n → shown (word (run c n false)) ≡ token c n false
shown-run c n r =
    let w = word (run c n false) in
    let f = rw (append-nil w) at (first-class c n [] r) in
    shown_by w (token c n false) (cc (value-run c n)) (rw (run-item c n r))

pub shown-break : (k : ℕ) → shown (word (gap k)) ≡ token 0 k false
shown-break k = shown_by (word (gap k)) (token 0 k false) (rw (value-digits k (41 ∷ []))) refl

pub run_is : (c n : ℕ) → Run c n → is_run (token c n false) ≡ true
run_is c n r = rw (le-leb 1 c r.class-least, le-leb 1 n r.long)

-- ---- a word that shows a run or a break is its writing

pub record RunWord (w : List ℕ) : Type 0 where
  pub c : ℕ
  pub n : ℕ
  pub run_of : Run c n
  pub token-of : shown w ≡ token c n false
  pub written : w ≡ word (run c n false)

pub record BreakWord (w : List ℕ) : Type 0 where
  pub k : ℕ
  pub long : 2 ≤ k
  pub token-of : shown w ≡ token 0 k false
  pub written : w ≡ word (gap k)

first-most : (w : List ℕ) → first_class w ≤ 4
first-most [] = omega arith
first-most (x ∷ w) =
    split (eqb x 40) (λ e. rw e (omega arith))
    (λ e. rw e (split (eqb x 126) (λ e. rw e (omega arith))
    (λ e. rw e (split (eqb x 92) (λ e. rw e (omega arith))
    (λ e. rw e (split (eqb x 61) (λ e. rw e (omega arith)) (λ e. rw e (omega arith))))))))

pub run-word : (w : List ℕ) → is_run (shown w) ≡ true → RunWord w
run-word w =
    let c = first_class w in
    let n = value 0 w in
    split (same_bytes w (word (item gap (token c n false))))
    (λ e. rw e (λ q.
    let b = (and-eq-true_iff (leb 1 c) (leb 1 n)).0 q in
    let r : Run c n = record { class-least = leb-true 1 c b.0; class-most = first-most w; long = leb-true 1 n b.1 } in
    record { c = c; n = n; run_of = r; token-of = rw e; written = rw (run-item c n r) at (same_bytes_lem w _ e) }))
    (λ e. rw e (λ q. absurd (false≢true q)))

pub break-word : (w : List ℕ) → is_break (shown w) ≡ true → BreakWord w
break-word w =
    let c = first_class w in
    let n = value 0 w in
    split (same_bytes w (word (item gap (token c n false))))
    (λ e. rw e (λ q.
    let b = (and-eq-true_iff (eqb c 0) (leb 2 n)).0 q in
    let z = eqb-true c 0 b.0 in
    record { k = n; long = leb-true 2 n b.1; token-of = rw (e, z); written = rw z at (same_bytes_lem w _ e) }))
    (λ e. rw e (λ q. absurd (false≢true q)))
