-- The first runs of a list, and those behind them: what the first hold says where the others begin.
-- Assumes nothing.
use Prim.Native.Nat.{ℕ, zero, suc, ◌+◌, ◌-◌, ◌≤◌, ◌<◌}
use mathlib.Core.Path.{◌≡◌, refl, sym, ap, ◌∙◌}
use mathlib.Core.Bool.{false}
use mathlib.Core.Logic.{◌≢◌}
use mathlib.Core.List.{List, [], ◌∷◌, ◌++◌, map}
use native.Mathlib.Nat.{not-suc-le-zero, le_of_suc-le-suc}
use native.Mathlib.Numerals.{sub-one}
use native.Mathlib.Omega.{arith}
use lib.Dec.{eqb, ltb}
use borrow.Author.Tests.{eqb-true, eqb-false, ltb-true, ltb-false}
use lib.ListN.{length, take, drop, get_or, length-append, length-drop, length-map}
use lib.Seq.{append_snoc, drop-length}
use Rattle.number.proofs.Split.{split}
use Rattle.rules.specs.Chart.{Token, token, class, len, class_of, classes, runs_from, runs}
use Rattle.rules.specs.Slices.{paired, total}
use Rattle.rules.proofs.Cost.{total_runs, total-append}
use Rattle.rules.proofs.Steps.{map-drop}
use Rattle.scan.specs.Scan.{FirstRuns, RoomForTokens, FirstTokens}
use Rattle.scan.specs.declared.Taken.{Taken}
use Rattle.measures.proofs.Part.{class-of-place}

pub some-run : (c n : ℕ) (cs : List ℕ) → 0 < length (runs_from c n cs)
some-run c n [] = omega arith
some-run c n (d ∷ cs) = split (eqb c d) (λ e. rw e (some-run c (suc n) cs)) (λ e. rw e (omega arith))

-- the runs behind the first ones are those of the measures behind these
after-from : (c n : ℕ) (cs : List ℕ) (t : Token) (ts us : List Token) → runs_from c n cs ≡ t ∷ (ts ++ us)
    → (k : ℕ) × (total (t ∷ ts) ≡ n + k) × (runs (drop k cs) ≡ us)
after-from c n [] (token x y s) [] us e = let q : n ≡ y = cc in (0, omega arith, cc)
after-from c n [] t (u ∷ ts) us e = absurd (omega (arith, ap length e))
after-from c n (d ∷ cs) (token x y s) [] us e =
    split (eqb c d)
    (λ q. let r = after-from c (suc n) cs (token x y s) [] us (rw q at e) in (suc r.0, omega arith, r.2))
    (λ q. let f = rw q at e in let g : n ≡ y = cc in (0, omega arith, cc))
after-from c n (d ∷ cs) (token x y s) (u ∷ ts) us e =
    split (eqb c d)
    (λ q. let r = after-from c (suc n) cs (token x y s) (u ∷ ts) us (rw q at e) in (suc r.0, omega arith, r.2))
    (λ q. let f = rw q at e in let g : n ≡ y = cc in let r = after-from d 1 cs u ts us (cc) in (suc r.0, omega arith, r.2))

pub after : (cs : List ℕ) (ts us : List Token) → runs cs ≡ ts ++ us → runs (drop (total ts) cs) ≡ us
after [] [] us e = e
after [] (t ∷ ts) us e = absurd (omega (arith, ap length e))
after (c ∷ cs) [] us e = e
after (c ∷ cs) (t ∷ ts) us e = let r = after-from c 1 cs t ts us e in let k : total (t ∷ ts) ≡ suc r.0 = omega arith in rw k r.2

-- neighbours differ
first-class : (c n : ℕ) (cs : List ℕ) (t : Token) (ts : List Token) → runs_from c n cs ≡ t ∷ ts → class t ≡ c
first-class c n [] (token x y s) ts e = cc
first-class c n (d ∷ cs) (token x y s) ts e = split (eqb c d) (λ q. first-class c (suc n) cs (token x y s) ts (rw q at e)) (λ q. let f = rw q at e in cc)

from-differ : (c n : ℕ) (cs : List ℕ) (t u : Token) (ts : List Token) → runs_from c n cs ≡ t ∷ u ∷ ts → class u ≢ c
from-differ c n [] t u ts e = absurd (omega (arith, ap length e))
from-differ c n (d ∷ cs) t u ts e =
    split (eqb c d)
    (λ q. from-differ c (suc n) cs t u ts (rw q at e))
    (λ q. let f = rw q at e in λ s. eqb-false c d q (sym s ∙ first-class d 1 cs u ts (cc)))

differ : (cs : List ℕ) (t u : Token) (ts : List Token) → runs cs ≡ t ∷ u ∷ ts → class t ≢ class u
differ [] t u ts e = absurd (omega (arith, ap length e))
differ (c ∷ cs) t u ts e = λ q. from-differ c 1 cs t u ts e (sym q ∙ first-class c 1 cs t (u ∷ ts) e)

-- the last run has the last one's class
last-from : (c n : ℕ) (cs : List ℕ) (ts : List Token) (t : Token) → runs_from c n cs ≡ ts ++ (t ∷ []) → class t ≡ get_or (c ∷ cs) (length cs) 0
last-from c n [] [] (token x y s) e = cc
last-from c n [] (u ∷ ts) t e = absurd (omega (arith, length-append ts (t ∷ []), ap length e))
last-from c n (d ∷ cs) [] t e =
    split (eqb c d)
    (λ q. last-from c (suc n) cs [] t (rw q at e) ∙ rw (eqb-true c d q))
    (λ q. absurd (omega (arith, some-run d 1 cs, ap length (rw q at e))))
last-from c n (d ∷ cs) (u ∷ ts) t e =
    split (eqb c d)
    (λ q. last-from c (suc n) cs (u ∷ ts) t (rw q at e) ∙ rw (eqb-true c d q))
    (λ q. let f = rw q at e in last-from d 1 cs ts t (cc))

last-class : (cs : List ℕ) (ts : List Token) (t : Token) → runs cs ≡ ts ++ (t ∷ []) → class t ≡ get_or cs (length cs - 1) 0
last-class [] ts t e = absurd (omega (arith, length-append ts (t ∷ []), ap length e))
last-class (c ∷ cs) ts t e = rw sub-one (last-from c 1 cs ts t e)

-- tokens from two slices: the first of tokens that are written there, and one more
pub paired-front : (ts us : List Token) → paired (map class (ts ++ us)) (map len (ts ++ us)) ≡ ts ++ us → paired (map class ts) (map len ts) ≡ ts
paired-front [] us e = refl
paired-front (token c n s ∷ ts) us e = let r = paired-front ts us (cc) in let q : false ≡ s = cc in cc

paired-suc : (cs ns : List ℕ) (k : ℕ) → k < length cs → k < length ns
    → paired (take (suc k) cs) (take (suc k) ns) ≡ paired (take k cs) (take k ns) ++ (token (get_or cs k 0) (get_or ns k 0) false ∷ [])
paired-suc [] ns k h g = absurd (not-suc-le-zero h)
paired-suc (c ∷ cs) [] k h g = absurd (not-suc-le-zero g)
paired-suc (c ∷ cs) (n ∷ ns) zero h g = refl
paired-suc (c ∷ cs) (n ∷ ns) (suc k) h g = ap {B = List Token} (λ ts. token c n false ∷ ts) (paired-suc cs ns k (le_of_suc-le-suc h) (le_of_suc-le-suc g))

module _ (m cs ns : List ℕ) where
  -- the first k tokens, and those of the measures from `next` on
  abbrev Front : ℕ → ℕ → Type 0
  Front k next = runs (classes m) ≡ paired (take k cs) (take k ns) ++ runs (classes (drop next m))

  -- the last of the first tokens by itself
  last_apart : (k next : ℕ) → Front (suc k) next → k < length cs → k < length ns
      → runs (classes m) ≡ paired (take k cs) (take k ns) ++ token (get_or cs k 0) (get_or ns k 0) false ∷ runs (classes (drop next m))
  last_apart k next e h g = rw (paired-suc cs ns k h g, append_snoc) at e

  summed : (k next : ℕ) → Front k next → next ≤ length m → total (paired (take k cs) (take k ns)) ≡ next
  summed k next e h = omega (arith, simp (total_runs, total-append, length-map, length-drop) at (ap total e))

  -- some are taken, if that is so where they are not all
  some-taken : (k next : ℕ) → Front k next → next ≤ length m → 0 < length m → (next < length m → 1 ≤ k) → 1 ≤ k
  some-taken zero next e w h f = f (omega (arith, summed zero next e w))
  some-taken (suc k) next e w h f = omega arith

  -- some were taken, so some measures too
  onward : (k next : ℕ) → Front k next → 1 ≤ k → k ≤ length cs → k ≤ length ns → 1 ≤ next
  onward zero next e p h g = absurd (not-suc-le-zero p)
  onward (suc k) zero e p h g = absurd (omega (arith, simp length-append at (ap length (last_apart k zero e h g))))
  onward (suc k) (suc next) e p h g = omega arith

  -- the last one given back
  given : (k next : ℕ) → Front k next → 1 ≤ k → k ≤ length cs → k ≤ length ns → next ≤ length m
      → (get_or ns (k - 1) 0 ≤ next) × Front (k - 1) (next - get_or ns (k - 1) 0)
  given zero next e p h g w = absurd (not-suc-le-zero p)
  given (suc k) next e p h g w =
      let a = last_apart k next e h g in
      let ts = paired (take k cs) (take k ns) in
      let n = get_or ns k 0 in
      let s : total ts + n ≡ next = omega (arith, simp total-append at (ap total (paired-suc cs ns k h g)), summed (suc k) next e w) in
      let q : next - n ≡ total ts = omega arith in
      rw sub-one (omega arith, rw (q, map-drop, after (classes m) ts _ a) a)

  -- the one before it is of another class
  other : (k next : ℕ) → Front k next → 2 ≤ k → k ≤ length cs → k ≤ length ns → get_or cs (k - 1 - 1) 0 ≢ get_or cs (k - 1) 0
  other zero next e p h g = absurd (not-suc-le-zero p)
  other (suc zero) next e p h g = absurd (omega arith)
  other (suc (suc k)) next e p h g =
      let a = rw (paired-suc cs ns k (omega arith) (omega arith), append_snoc) at (last_apart (suc k) next e h g) in
      let ts = paired (take k cs) (take k ns) in
      simp sub-one (differ (drop (total ts) (classes m)) _ _ _ (after (classes m) ts _ a))

  -- the last of all has the last measure's class
  last : (k : ℕ) → Front k (length m) → 1 ≤ k → k ≤ length cs → k ≤ length ns → get_or cs (k - 1) 0 ≡ class_of (get_or m (length m - 1) 0)
  last zero e p h g = absurd (not-suc-le-zero p)
  last (suc k) e p h g =
      rw (sub-one, ← (class-of-place m (length m - 1)), ← (length-map m class_of))
      (last-class (classes m) (paired (take k cs) (take k ns)) (token (get_or cs k 0) (get_or ns k 0) false) (rw drop-length at (last_apart k (length m) e h g)))

-- `tokens_into`: the first runs, and where the last of them is a break it is given back
module _ {m cs₀ cs ns₀ ns : List ℕ} {r : Taken} (a : RoomForTokens m cs₀ ns₀) (w : FirstRuns m (length cs₀ - 17) cs₀ cs ns₀ ns r)
    (long_c : length cs ≡ length cs₀) (long_n : length ns ≡ length ns₀) where
  enough : r.tokens ≤ length ns
  enough = omega arith

  pub some : 1 ≤ r.tokens
  some = some-taken m cs ns r.tokens r.next w.rest w.within a.some (λ h. omega (arith, w.many h))

  pub kept : get_or cs (r.tokens - 1) 0 ≢ 0 → FirstTokens m cs₀ cs ns₀ ns r
  kept h =
      record {
        rest = w.rest;
        some = some;
        fits = w.fits;
        run = h;
        on = onward m cs ns r.tokens r.next w.rest some w.fits enough;
        within = w.within;
        long_c = long_c;
        long_n = long_n;
      }

  module _ (h : get_or cs (r.tokens - 1) 0 ≡ 0) where
    -- these are not all, for the last of all is a run
    many : 2 ≤ r.tokens
    many =
        split (ltb r.next (length m))
        (λ e. omega (arith, w.many (ltb-true r.next (length m) e)))
        (λ e.
        let q : r.next ≡ length m = omega (arith, ltb-false r.next (length m) e) in
        absurd (a.last (sym (last m cs ns r.tokens (rw q at w.rest) some w.fits enough) ∙ h)))

    abbrev back : (get_or ns (r.tokens - 1) 0 ≤ r.next) × Front m cs ns (r.tokens - 1) (r.next - get_or ns (r.tokens - 1) 0)
    back = given m cs ns r.tokens r.next w.rest some w.fits enough w.within

    pub held : get_or ns (r.tokens - 1) 0 ≤ r.next
    held = back.0

    pub fewer : FirstTokens m cs₀ cs ns₀ ns (record { tokens = r.tokens - 1; next = r.next - get_or ns (r.tokens - 1) 0 })
    fewer =
        let p = many in
        record {
          rest = back.1;
          some = omega arith;
          fits = omega arith;
          run = λ q. other m cs ns r.tokens r.next w.rest many w.fits enough (q ∙ sym h);
          on = onward m cs ns (r.tokens - 1) _ back.1 (omega arith) (omega arith) (omega arith);
          within = omega arith;
          long_c = long_c;
          long_n = long_n;
        }
