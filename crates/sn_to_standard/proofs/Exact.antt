-- The reader takes the SN detailed writings of items in order, and the empty text, and nothing else.
-- Assumes nothing.
use Prim.Native.Nat.{ℕ}
use mathlib.Core.Path.{◌≡◌, refl, ap, ◌∙◌}
use mathlib.Core.Bool.{true, false}
use mathlib.Core.Logic.{◌⊎◌, inl, inr}
use mathlib.Core.List.{List, [], ◌∷◌, ◌++◌, map, append-nil}
use lib.Dec.{eqb}
use borrow.Author.Tests.{eqb-true, le-leb}
use Rattle.number.specs.Digits.{digits}
use Rattle.number.proofs.Split.{split, never}
use Rattle.rules.specs.Chart.{Token, token}
use Rattle.rules.specs.Reduced.{gap, item}
use Rattle.rules.specs.Texts.{word, strung, render}
use Rattle.rules.proofs.Words.{word-solid}
use Rattle.sn_to_standard.specs.Reader.{onto_first, words, shown, is_run, is_break, Reading, outside, inside, before, expect_run, after_run, reading}
use Rattle.sn_to_standard.specs.Laws.{Run, Ordered, last, next, over, writing, ReadsExactly}
use Rattle.sn_to_standard.proofs.Shown.{words_more, words_last, after_words, shown-run, shown-break, run-word, break-word, run_is, run-item}

-- the writing of tokens that stand behind another, a space before each
abbrev behind : List Token → List ℕ
behind ts = strung (λ j. 32 ∷ word j) (map (item gap) ts)

-- ---- what is written is read

words-behind : (t : Token) (ts : List Token) → words (word (item gap t) ++ behind ts) ≡ word (item gap t) ∷ after_words (behind ts)
words-behind t [] = rw append-nil (words_last (word (item gap t)) (word-solid (item gap t)))
words-behind t (u ∷ ts) = words_more (word (item gap t)) (word (item gap u) ++ behind ts) (word-solid (item gap t))

-- read from their writing, where a run is expected and behind a run
abbrev Reads : List Token → Type 0
Reads ts = (expect_run (after_words (behind ts)) ≡ inside ts) × (after_run (after_words (behind ts)) ≡ inside ts)

run-reads : (c n : ℕ) (ts : List Token) → Run c n → after_run (after_words (behind ts)) ≡ inside ts → Reads (token c n false ∷ ts)
run-reads c n ts r e = rw (words-behind (token c n false) ts, run-item c n r, shown-run c n r, run_is c n r, e) (refl, refl)

ordered-reads : {ts : List Token} → Ordered ts → Reads ts
ordered-reads (last {c = c} {n = n} r) = run-reads c n [] r refl
ordered-reads (next {c = c} {n = n} {ts = ts} r o) = run-reads c n ts r (ordered-reads o).1
ordered-reads (over {c = c} {n = n} {k = k} {ts = ts} r h o) =
    run-reads c n (token 0 k false ∷ ts) r (rw (words-behind (token 0 k false) ts, shown-break k, le-leb 2 k h, (ordered-reads o).0))

pub writing-read : {ts : List Token} → Ordered ts → reading (writing ts) ≡ inside ts
unfolding reading render digits
writing-read {ts} o = first_read ts (ordered-reads o).0
  where
    whole-read : (t : List ℕ) (ts : List Token) → expect_run (words t) ≡ inside ts → reading t ≡ inside ts
    whole-read [] ts e = never (cc)
    whole-read (x ∷ t) ts e = e

    first_read : (ts : List Token) → expect_run (after_words (behind ts)) ≡ inside ts → reading (writing ts) ≡ inside ts
    first_read [] e = never (cc)
    first_read (t ∷ ts) e = whole-read (writing (t ∷ ts)) (t ∷ ts) e

pub empty-read : reading (writing []) ≡ inside []
unfolding reading render
empty-read = refl

-- ---- what is read is in order, and written so

-- words, a space before each
abbrev spaced : List (List ℕ) → List ℕ
spaced [] = []
spaced (w ∷ ws) = 32 ∷ w ++ spaced ws

words-spaced : (xs : List ℕ) → spaced (words xs) ≡ 32 ∷ xs
words-spaced [] = refl
words-spaced (x ∷ xs) = split (eqb x 32) (λ e. rw (e, words-spaced xs, eqb-true x 32 e)) (λ e. rw e (onto-spaced (words xs) (words-spaced xs)))
  where
    onto-spaced : (ws : List (List ℕ)) → spaced ws ≡ 32 ∷ xs → spaced (onto_first x ws) ≡ 32 ∷ x ∷ xs
    onto-spaced [] e = never (cc)
    onto-spaced (w ∷ ws) e = cc

-- if tokens are read of some words, they have the shape P, and the words are their writing
abbrev ReadAs : (List Token → Type 0) → List (List ℕ) → Reading → Type 0
ReadAs P ws outside = Unit {0}
ReadAs P ws (inside ts) = P ts × (spaced ws ≡ behind ts)

-- tokens that may follow a run
abbrev Following : List Token → Type 0
Following ts = (c n : ℕ) → Run c n → Ordered (token c n false ∷ ts)

module _ (w : List ℕ) (ws : List (List ℕ)) where
  run-first : (r : Reading) → is_run (shown w) ≡ true → ReadAs Following ws r
      → ReadAs Ordered (w ∷ ws) (before (shown w) r) × ReadAs Following (w ∷ ws) (before (shown w) r)
  run-first outside q h = (tt, tt)
  run-first (inside ts) q h =
      let f = run-word w q in
      let o = h.0 f.c f.n f.run_of in
      rw (f.token-of, run-item f.c f.n f.run_of, ← f.written, h.1) ((o, refl), (λ c n r. next r o, refl))

  break-first : (r : Reading) → is_break (shown w) ≡ true → ReadAs Ordered ws r → ReadAs Following (w ∷ ws) (before (shown w) r)
  break-first outside q h = tt
  break-first (inside ts) q h = let f = break-word w q in rw (f.token-of, h.1) (λ c n r. over r f.long h.0, cc f.written)

read_as : (ws : List (List ℕ)) → ReadAs Ordered ws (expect_run ws) × ReadAs Following ws (after_run ws)
read_as [] = (tt, (λ c n r. last r, refl))
read_as (w ∷ ws) =
    split (is_run (shown w))
    (λ q. rw q (run-first w ws (after_run ws) q (read_as ws).1))
    (λ q. rw q (tt, split (is_break (shown w)) (λ b. rw b (break-first w ws (expect_run ws) b (read_as ws).0)) (λ b. rw b tt)))

pub read-shape : (t : List ℕ) (ts : List Token) → reading t ≡ inside ts → (t ≡ writing ts) × ((ts ≡ []) ⊎ Ordered ts)
unfolding reading render
read-shape [] ts e = let z : [] ≡ ts = cc in rw (← z) (refl, inl refl)
read-shape (x ∷ xs) ts e = let h = rw e at (read_as (words (x ∷ xs))).0 in (whole ts h.1, inr h.0)
  where
    whole : (ts : List Token) → spaced (words (x ∷ xs)) ≡ behind ts → x ∷ xs ≡ writing ts
    whole [] e = never (cc (words-spaced (x ∷ xs)))
    whole (t ∷ ts) e = cc (words-spaced (x ∷ xs))

pub reads-exactly : ReadsExactly
reads-exactly t ts = (read-shape t ts, λ h. ap reading h.0 ∙ written_read h.1)
  where
    written_read : (ts ≡ []) ⊎ Ordered ts → reading (writing ts) ≡ inside ts
    written_read (inl e) = rw e empty-read
    written_read (inr o) = writing-read o
