-- The texts of this crate are the paper's where the tokens are the chart's: in two slices, or read off the measures of its active part.
-- Assumes nothing.
use Prim.Native.Nat.{ℕ, zero, suc, ◌+◌, ◌≤◌, ◌<◌}
use mathlib.Core.Path.{◌≡◌, refl, sym, ap, ◌∙◌}
use mathlib.Core.Bool.{Bool, true, false, true≢false}
use mathlib.Core.Logic.{◌≢◌}
use mathlib.Core.List.{List, [], ◌∷◌, map}
use native.Mathlib.Nat.{add-suc, suc-ne-zero}
use native.Mathlib.Numerals.{add-one}
use native.Mathlib.Omega.{arith}
use lib.Dec.{eqb, leb}
use lib.ListN.{length, length-take, length-drop}
use borrow.Author.Tests.{leb-true, leb-false, ne_eqb, eqb-true, eqb-false}
use Rattle.number.proofs.Each.{Each, none, ◌&◌}
use Rattle.number.proofs.Split.{split}
use Rattle.rules.specs.Chart.{classes, Token, token, class, len, runs_from, runs, flat, keep, to_last, active, active_part, tokens, streams}
use Rattle.rules.specs.Reduced.{joins, join_from, join, short, absorb, item, Item, sn_items, pieces, reduced}
use Rattle.rules.specs.declared.Kind.{Kind}
use Rattle.rules.specs.declared.Kind.TheVariants.{Sn as sn, Standard as standard}
use Rattle.rules.specs.Texts.{part, strung, render, text}
use Rattle.rules.specs.declared.BreakdownMode.{BreakdownMode}
use Rattle.rules.specs.declared.BreakdownMode.TheVariants as Mode
use Rattle.rules.specs.declared.StreamBreakdownLevel.{StreamBreakdownLevel}
use Rattle.rules.specs.declared.StreamBreakdownLevel.TheVariants as Level
use Rattle.rules.proofs.Shape.{class-below}
use Rattle.rules.proofs.Steps.{joins_long, short-one, short-long, Closed, tokens-closed, active-part}
use Rattle.rules.specs.Slices.{paired}
use Rattle.text_buffer.specs.MayFollow.{MayFollow, Alternates}
use Rattle.sn_text.specs.Sn.{limit_of, sn_at}
use Rattle.standard_text.specs.Standard.{glue, merged, gap_item, standard_of, total_text}
use Rattle.text_buffer.specs.Parts.{Tokens}
use Rattle.sn_text.specs.SnParts.{spaced, sn_of}
use Rattle.breakdown.specs.Forms.{form_of, is_total, text_of}
use Rattle.breakdown.specs.Parts.{ActiveMeasures}
use Rattle.text_buffer.proofs.Reading.{opens-break}

-- ---- the tokens of a chart alternate

abbrev Low : ℕ → Type 0
Low c = c ≤ 4

low-classes : (m : List ℕ) → Each Low (classes m)
low-classes [] = none
low-classes (d ∷ m) = class-below d & low-classes m

low-keep : (c : ℕ) (cs : List ℕ) → c ≤ 4 → Each Low cs → Each Low (keep c cs)
low-keep zero [] h l = none
low-keep zero (d ∷ cs) h l = h & l
low-keep (suc c) cs h l = h & l

low-last : (cs : List ℕ) → Each Low cs → Each Low (to_last cs)
low-last [] l = none
low-last (c ∷ cs) (h & l) = low-keep c (to_last cs) h (low-last cs l)

behind-runs : (b c n : ℕ) (cs : List ℕ) (t : Token) → b ≢ c → 1 ≤ n → b ≤ 4 → c ≤ 4 → Each Low cs → Closed t (runs_from c n cs) → MayFollow b (runs_from c n cs)
behind-runs b c n [] t d h lb lc ls e = (λ z. (λ y. d (y ∙ sym z), h), (e, lc), lb)
behind-runs b c n (x ∷ cs) t d h lb lc (lx & ls) e =
    split (eqb c x)
    (λ z. rw z (behind-runs b c (suc n) cs t d (omega arith) lb lc ls (rw z at e)))
    (λ z. rw z (λ y. (λ w. d (w ∙ sym y), h), behind-runs c x 1 cs (token c n false) (eqb-false c x z) (omega arith) lc lx ls (rw z at e), lb))

alternates : (cs : List ℕ) → Each Low cs → Alternates (tokens cs)
unfolding tokens active
alternates [] l = tt
alternates (zero ∷ cs) (h & l) = alternates cs l
alternates (suc c ∷ cs) (h & l) =
    let t = token 1 1 false in
    opens-break (tokens (suc c ∷ cs)) (behind-runs 0 (suc c) 1 (to_last cs) t (λ e. omega arith) (omega arith) (omega arith) h (low-last cs l)
    (tokens-closed t (suc c ∷ cs) (suc-ne-zero 0)))

-- ---- the tokens of a chart, in two slices

pub tokens-of : (cs ns chart : List ℕ) → paired cs ns ≡ tokens (classes chart) → length cs ≤ 1048576 → Tokens cs ns
tokens-of cs ns chart e h = record { few = h; alternates = rw e (alternates (classes chart) (low-classes chart)) }

-- ---- the measures of its active part

module _ (chart : List ℕ) where
  pub part-tokens : runs (classes (active_part chart)) ≡ tokens (classes chart)
  unfolding tokens
  part-tokens = ap runs (active-part chart)

  pub active-measures : length chart ≤ 1048576 → ActiveMeasures (active_part chart)
  unfolding active_part
  active-measures h =
      record { few = simp (length-take, length-drop) (omega arith); alternates = rw part-tokens (alternates (classes chart) (low-classes chart)) }

-- ---- breaks have a length, so with the limit 0 nothing joins, and below 2 nothing is added

abbrev Long : Token → Type 0
Long t = class t ≡ 0 → 1 ≤ len t

behind-long : (c : ℕ) (ts : List Token) → MayFollow c ts → Each Long ts
behind-long c [] h = none
behind-long c (token d n s ∷ ts) h = (λ e. (h.0 e).1) & behind-long d ts h.1

tokens-long : (cs : List ℕ) → Each Low cs → Each Long (tokens cs)
tokens-long cs l = go (tokens cs) (alternates cs l)
  where
    go : (ts : List Token) → Alternates ts → Each Long ts
    go [] h = none
    go (t ∷ ts) h = behind-long 0 (t ∷ ts) h

join-none : (ts : List Token) → Each Long ts → join 0 ts ≡ ts
join-none [] h = refl
join-none (t ∷ ts) (h & hs) = go t ts hs
  where
    go : (t : Token) (ts : List Token) → Each Long ts → join_from 0 t ts ≡ t ∷ ts
    go t [] h = refl
    go t (u ∷ []) h = refl
    go t (u ∷ v ∷ ts) (h & hs) =
        split (eqb (class u) 0)
        (λ e. rw (joins_long 0 t u v (h (eqb-true (class u) 0 e))) (ap {B = List Token} (λ l. t ∷ l) (go u (v ∷ ts) hs)))
        (λ e. rw e (ap {B = List Token} (λ l. t ∷ l) (go u (v ∷ ts) hs)))

absorb-none : (k : ℕ) → k < 2 → (ts : List Token) → absorb k ts ≡ ts
absorb-none k h [] = refl
absorb-none k h (t ∷ []) = refl
absorb-none k h (t ∷ u ∷ ts) = rw (never u) (ap {B = List Token} (λ l. t ∷ l) (absorb-none k h (u ∷ ts)))
  where
    never : (u : Token) → short k u ≡ false
    never u = split (leb (len u) k) (λ e. short-one k u (omega (arith, leb-true (len u) k e))) (λ e. short-long k u (leb-false (len u) k e))

-- ---- SN

sn-items : (mode : BreakdownMode) (ts : List Token) → Each Long ts → sn_at (limit_of mode) ts ≡ sn_items mode ts
sn-items Mode.Detailed ts h = rw (absorb-none 0 (omega arith) (join 0 ts), join-none ts h)
sn-items Mode.Partial ts h = rw (absorb-none 1 (omega arith) (join 1 ts))
sn-items Mode.Simplified ts h = refl

sn-render : (mode : BreakdownMode) (is : List Item) → spaced is ≡ render (sn mode) is
unfolding render
sn-render mode [] = refl
sn-render mode (i ∷ is) = refl

-- ---- pieces are the tokens' runs, added up

first-gap : (n : ℕ) (cs : List ℕ) (c m : ℕ) → glue (token (suc c) m false) (runs_from 0 n cs) ≡ token 1 m false ∷ runs_from 0 n cs
first-gap n [] c m = refl
first-gap n (d ∷ cs) c m = split (eqb 0 d) (λ e. rw e (first-gap (suc n) cs c m)) (λ e. rw e)

first_piece : (n : ℕ) (cs : List ℕ) (c m : ℕ) → glue (token (suc c) m false) (runs_from 1 n cs) ≡ runs_from 1 (m + n) cs
first_piece n [] c m = refl
first_piece n (d ∷ cs) c m = split (eqb 1 d) (λ e. rw e (first_piece (suc n) cs c m ∙ rw (add-suc m n))) (λ e. rw e)

merged-from : (c n : ℕ) (cs : List ℕ) → runs_from (flat c) n (map flat cs) ≡ merged (runs_from c n cs)
merged-from zero n [] = refl
merged-from (suc c) n [] = refl
merged-from zero n (zero ∷ cs) = merged-from zero (suc n) cs
merged-from zero n (suc d ∷ cs) =
    rw (ne_eqb 0 (suc d) (λ e. omega arith)) (ap {B = List Token} (λ l. token 0 n false ∷ l) (merged-from (suc d) 1 cs))
merged-from (suc c) n (zero ∷ cs) =
    rw (ne_eqb (suc c) 0 (suc-ne-zero c), ← (merged-from zero 1 cs)) (sym (first-gap 1 (map flat cs) c n))
merged-from (suc c) n (suc d ∷ cs) =
    split (eqb (suc c) (suc d))
    (λ e. rw e (merged-from (suc c) (suc n) cs))
    (λ e. rw (e, ← (merged-from (suc d) 1 cs), first_piece 1 (map flat cs) c n, add-one))

pieces-merged : (cs : List ℕ) → pieces cs ≡ merged (tokens cs)
unfolding pieces tokens
pieces-merged cs = go (active cs)
  where
    go : (xs : List ℕ) → runs (map flat xs) ≡ merged (runs xs)
    go [] = refl
    go (c ∷ xs) = merged-from c 1 xs

-- ---- Standard

long-glue : (t : Token) (ps : List Token) → Long t → Each Long ps → Each Long (glue t ps)
long-glue (token zero n s) ps h hs = h & hs
long-glue (token (suc c) n s) [] h hs = (λ e. absurd (suc-ne-zero 0 e)) & none
long-glue (token (suc c) n s) (token zero m t ∷ ps) h hs = (λ e. absurd (suc-ne-zero 0 e)) & hs
long-glue (token (suc c) n s) (token (suc d) m t ∷ ps) h (g & hs) = (λ e. absurd (suc-ne-zero 0 e)) & hs

long-merged : (ts : List Token) → Each Long ts → Each Long (merged ts)
long-merged [] h = none
long-merged (t ∷ ts) (h & hs) = long-glue t (merged ts) h (long-merged ts hs)

-- a list with a first token
abbrev More : List Token → Type 0
More [] = ⊥
More (t ∷ ts) = Unit {0}

more-join : (k : ℕ) (t : Token) (ts : List Token) → More (join_from k t ts)
more-join k t [] = tt
more-join k t (u ∷ []) = tt
more-join k t (u ∷ v ∷ ts) = split (joins k t u v) (λ e. rw e (more-join k (token (class t) (len t + len u + len v) true) ts)) (λ e. rw e tt)

more-glue : (k : ℕ) (t : Token) (ps : List Token) → More (join k (glue t ps))
more-glue k (token zero n s) ps = more-join k (token 0 n s) ps
more-glue k (token (suc c) n s) [] = tt
more-glue k (token (suc c) n s) (token zero m t ∷ ps) = more-join k (token 1 n s) (token 0 m t ∷ ps)
more-glue k (token (suc c) n s) (token (suc d) m t ∷ ps) = more-join k (token 1 (n + m) s) ps

standard-render : (l : StreamBreakdownLevel) (b : Bool) (k : ℕ) (ts : List Token)
    → standard_of b k ts ≡ render (standard l) (map (item (gap_item b)) (join k (merged ts)))
unfolding render
standard-render l b k [] = refl
standard-render l b k (t ∷ ts) = go (join k (merged (t ∷ ts))) (more-glue k t (merged ts))
  where
    go : (ps : List Token) → More ps → strung part (map (item (gap_item b)) ps) ≡ render (standard l) (map (item (gap_item b)) ps)
    go [] h = absurd h
    go (p ∷ ps) h = refl

-- ---- each text is the paper's

module _ (ts : List Token) (chart : List ℕ) (e : ts ≡ tokens (classes chart)) where
  -- SN: detailed, partial, simplified
  pub sn-text : (mode : BreakdownMode) → sn_of (limit_of mode) ts ≡ text (sn mode) chart
  unfolding text reduced
  sn-text mode =
      rw e (ap spaced (sn-items mode (tokens (classes chart)) (tokens-long (classes chart) (low-classes chart)))
      ∙ sn-render mode (sn_items mode (tokens (classes chart))))

  from_pieces : (l : StreamBreakdownLevel) (b : Bool) (k : ℕ) → standard_of b k ts
      ≡ render (standard l) (map (item (gap_item b)) (join k (pieces (classes chart))))
  from_pieces l b k = rw (e, pieces-merged (classes chart)) (standard-render l b k (tokens (classes chart)))

  alone : join 0 (pieces (classes chart)) ≡ pieces (classes chart)
  alone =
      join-none (pieces (classes chart)) (rw (pieces-merged (classes chart))
      (long-merged (tokens (classes chart)) (tokens-long (classes chart) (low-classes chart))))

  -- Standard
  pub detailed-text : standard_of false 0 ts ≡ text (standard Level.Detailed) chart
  unfolding text reduced
  detailed-text = from_pieces Level.Detailed false 0 ∙ rw alone

  pub partial-text : standard_of true 0 ts ≡ text (standard Level.Partial) chart
  unfolding text reduced
  partial-text = from_pieces Level.Partial true 0 ∙ rw alone

  pub simple-text : standard_of true 1 ts ≡ text (standard Level.Simple) chart
  unfolding text reduced
  simple-text = from_pieces Level.Simple true 1

  pub form-text : (k : Kind) → is_total k ≡ false → text_of (form_of k) ts ≡ text k chart
  form-text (sn mode) h = sn-text mode
  form-text (standard Level.Detailed) h = detailed-text
  form-text (standard Level.Partial) h = partial-text
  form-text (standard Level.Simple) h = simple-text
  form-text (standard Level.Total) h = absurd (true≢false h)

-- Total
pub total-text : (chart : List ℕ) → total_text (streams (classes chart)) ≡ text (standard Level.Total) chart
unfolding text reduced
total-text chart = refl
