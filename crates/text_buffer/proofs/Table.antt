-- The table of words is right: the numbers and the rows, one behind the other.
-- Assumes nothing.
use Prim.Native.Nat.{ℕ, zero, suc, ◌+◌, ◌-◌, ◌≤◌, ◌<◌, min}
use mathlib.Core.Path.{◌≡◌, refl, ◌∙◌}
use mathlib.Core.Bool.{cond}
use mathlib.Core.List.{List, [], ◌++◌, append-nil}
use native.Mathlib.Nat.{zero-add}
use native.Mathlib.Omega.{arith}
use lib.Dec.{leb}
use lib.ListN.{get_or}
use borrow.Author.Tests.{leb-true, leb-false, le-leb, lt-leb}
use Rattle.number.specs.PlacesSet.{PlacesSet}
use Rattle.number.specs.Word.{Word, number_word}
use Rattle.number.proofs.Split.{split}
use Rattle.number.proofs.PlacesSet.{places_same, places-on}
use Rattle.rules.specs.Bytes.{bytes}
use Rattle.rules.specs.Reduced.{Sign, dash, slash, bar, sign}
use Rattle.rules.specs.Texts.{mark, part, word}
use Rattle.text_buffer.specs.Words.{side, Words, is_word, class_word, sign_word}

-- a break's side with no byte is a run's
side-none : (c : ℕ) → side 0 c ≡ mark c
side-none zero = refl
side-none (suc c) = refl

-- the signs in three stretches
pub signs-set : {old mid last new : List ℕ} (row most d s b : ℕ) → 4 ≤ most → PlacesSet (is_word d) row 5 old mid
    → PlacesSet (is_word s) (row + 5) (most - 4) mid last → PlacesSet (is_word b) (row + most + 1) 1 last new
    → PlacesSet (sign_word most d s b) row (most + 2) old new
signs-set {last = last} {new = new} row most d s b l x y z =
    let p : row + most + 1 ≡ row + (5 + (most - 4)) = omega arith in
    let e : 5 + (most - 4) + 1 ≡ most + 2 = omega arith in
    let dashes = places_same {Same = sign_word most d s b} (λ i v h w. rw (le-leb i 4 (omega arith)) w) x in
    let slashes : (i v : ℕ) → i < most - 4 → is_word s i v → sign_word most d s b (5 + i) v =
    λ i v h w. rw (lt-leb (5 + i) 4 (omega arith), le-leb (5 + i) most (omega arith)) w in
    let bars : (i v : ℕ) → i < 1 → is_word b i v → sign_word most d s b (5 + (most - 4) + i) v =
    λ i v h w. rw (lt-leb (5 + (most - 4) + i) 4 (omega arith), lt-leb (5 + (most - 4) + i) most (omega arith)) w in
    rw e at (places-on (5 + (most - 4)) 1 bars (places-on 5 (most - 4) slashes dashes y) (rw p at z))

-- the sign of a gap of g is that of min g (most + 1)
sign-right : (text : Sign → List ℕ) (most d s b : ℕ) → 4 ≤ most → Word (text dash) d → Word (text slash) s → Word (text bar) b → (g w : ℕ)
    → sign_word most d s b (min g (most + 1)) w → Word (text (cond (leb g 4) dash (cond (leb g most) slash bar))) w
sign-right text most d s b l x y z g w e =
    rw e
    (split (leb g 4)
    (λ f. let h = leb-true g 4 f in rw (f, le-leb (min g (most + 1)) 4 (omega arith)) x)
    (λ f. let h = leb-false g 4 f in
    split (leb g most)
    (λ k. let i = leb-true g most k in rw (f, k, lt-leb (min g (most + 1)) 4 (omega arith), le-leb (min g (most + 1)) most (omega arith)) y)
    (λ k. let i = leb-false g most k in rw (f, k, lt-leb (min g (most + 1)) 4 (omega arith), lt-leb (min g (most + 1)) most (omega arith)) z)))

-- a row by class that later rows leave
row-right : (b : ℕ) {tail from : ℕ} {xs old mid : List ℕ} (new : List ℕ) → Word xs tail → PlacesSet (class_word b tail) from 5 old mid
    → ((i : ℕ) → i < from + 5 → get_or new i 0 ≡ get_or mid i 0) → (c : ℕ) → c ≤ 4 → Word (side b c ++ xs) (get_or new (from + c) 0)
row-right b {from = from} new h s kept c l = rw (kept (from + c) (omega arith), ← h.text) (s.inside c (omega arith))

-- the numbers and the rows, one behind the other: the words of which the rows are made, and then the stretches
module _ {space star d s b d' s' b' : ℕ} (hs : Word (bytes " ") space) (ht : Word (bytes "* ") star) (hd : Word (bytes "- ") d) (hl : Word (bytes "/ ") s)
    (hb : Word (bytes "| ") b) (hd' : Word (bytes "-") d') (hl' : Word (bytes "/") s') (hb' : Word (bytes " | ") b')
    {old t₀ t₁ t₂ t₃ t₄ t₅ t₆ t : List ℕ} (s₀ : PlacesSet (number_word 0) 0 100 old t₀)
    (s₁ : PlacesSet (class_word 0 0) 100 5 t₀ t₁) (s₂ : PlacesSet (class_word 40 0) 105 5 t₁ t₂)
    (s₃ : PlacesSet (class_word 41 space) 110 5 t₂ t₃) (s₄ : PlacesSet (class_word 0 space) 115 5 t₃ t₄) (s₅ : PlacesSet (class_word 0 star) 120 5 t₄ t₅)
    (s₆ : PlacesSet (sign_word 32 d s b) 125 34 t₅ t₆) (s₇ : PlacesSet (sign_word 31 d' s' b') 159 33 t₆ t) where
  kept₅ : (i : ℕ) → i < 125 → get_or t i 0 ≡ get_or t₅ i 0
  kept₅ i h = s₇.before i (omega arith) ∙ s₆.before i h

  kept₄ : (i : ℕ) → i < 120 → get_or t i 0 ≡ get_or t₄ i 0
  kept₄ i h = kept₅ i (omega arith) ∙ s₅.before i h

  kept₃ : (i : ℕ) → i < 115 → get_or t i 0 ≡ get_or t₃ i 0
  kept₃ i h = kept₄ i (omega arith) ∙ s₄.before i h

  kept₂ : (i : ℕ) → i < 110 → get_or t i 0 ≡ get_or t₂ i 0
  kept₂ i h = kept₃ i (omega arith) ∙ s₃.before i h

  kept₁ : (i : ℕ) → i < 105 → get_or t i 0 ≡ get_or t₁ i 0
  kept₁ i h = kept₂ i (omega arith) ∙ s₂.before i h

  pub table-right : Words t
  table-right =
      let none : Word [] 0 = record { text = refl; short = omega arith } in
      record {
        number = λ n h. rw (kept₁ n (omega arith), s₁.before n h) (rw zero-add at (s₀.inside n h));
        marks = λ c h. rw (append-nil, side-none) at (row-right 0 t none s₁ kept₁ c h);
        before = λ c h. rw append-nil at (row-right 40 t none s₂ kept₂ c h);
        behind = row-right 41 t hs s₃ kept₃;
        ended = λ c h. rw side-none at (row-right 0 t hs s₄ kept₄ c h);
        starred = λ c h. rw side-none at (row-right 0 t ht s₅ kept₅ c h);
        signs = λ g. rw (s₇.before (125 + min g 33) (omega arith))
            (sign-right (λ i. word (sign i) ++ bytes " ") 32 d s b (omega arith) hd hl hb g _ (s₆.inside (min g 33) (omega arith)));
        parts = λ g. sign-right (λ i. part (sign i)) 31 d' s' b' (omega arith) hd' hl' hb' g _ (s₇.inside (min g 32) (omega arith));
      }
