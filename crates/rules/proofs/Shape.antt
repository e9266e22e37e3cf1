-- What is known of a chart's tokens: classes are at most 4 (1 where classes are ignored), and neighbours' classes differ.
-- Assumes nothing.
use Prim.Native.Nat.{ℕ, zero, suc, ◌≤◌, ◌+◌}
use mathlib.Core.Path.{◌≡◌, sym}
use mathlib.Core.Bool.{true, ◌&&◌, and-eq-true_iff}
use mathlib.Core.Logic.{◌≢◌}
use mathlib.Core.List.{List, [], ◌∷◌, map}
use native.Mathlib.Omega.{arith}
use lib.Dec.{eqb, leb, ltb}
use borrow.Author.Tests.{eqb-true, eqb-false}
use Rattle.rules.specs.Chart.{class_of, classes, from_first, keep, to_last, active, Token, token, class, len, runs_from, runs, flat, tokens}
use Rattle.rules.specs.Reduced.{joins, join_from, join, short, absorb, drop_ones, pieces}
use Rattle.number.proofs.Split.{split}
use Rattle.number.proofs.Each.{Each, none, ◌&◌}

pub joined-class : (k : ℕ) (t u v : Token) → joins k t u v ≡ true → class t ≡ class v
joined-class k t u v e = eqb-true (class t) (class v) ((and-eq-true_iff (eqb (class u) 0 && leb (len u) k) (eqb (class t) (class v))).0 e).1

module _ (K : ℕ) where
  -- each class of a list, each token's class, is at most K
  abbrev Below : List ℕ → Type 0
  Below = Each (λ c. c ≤ K)

  abbrev pub Within : List Token → Type 0
  Within = Each (λ t. class t ≤ K)

  -- and differs from that of the token before; p is the class before the first
  abbrev pub Differ : ℕ → List Token → Type 0
  Differ p [] = Unit {0}
  Differ p (t ∷ ts) = (class t ≤ K) × (class t ≢ p) × Differ (class t) ts

  pub differ-within : (p : ℕ) (ts : List Token) → Differ p ts → Within ts
  differ-within p [] h = none
  differ-within p (t ∷ ts) h = h.0 & differ-within (class t) ts h.2

  from-differ : (p c n : ℕ) (cs : List ℕ) → c ≤ K → c ≢ p → Below cs → Differ p (runs_from c n cs)
  from-differ p c n [] h d none = (h, d, tt)
  from-differ p c n (x ∷ cs) h d (g & gs) =
      split (eqb c x)
      (λ e. rw e (from-differ p c (suc n) cs h d gs))
      (λ e. rw e (h, d, from-differ c x 1 cs g (λ q. eqb-false c x e (sym q)) gs))

  runs-differ : (p : ℕ) (cs : List ℕ) → K ≤ p → Below cs → Differ (suc p) (runs cs)
  runs-differ p [] q none = tt
  runs-differ p (c ∷ cs) q (h & hs) = from-differ (suc p) c 1 cs h (omega arith) hs

  join_from-differ : (k p : ℕ) (t : Token) (us : List Token) → class t ≤ K → class t ≢ p → Differ (class t) us → Differ p (join_from k t us)
  join_from-differ k p t [] h d w = (h, d, tt)
  join_from-differ k p t (u ∷ []) h d w = (h, d, w)
  join_from-differ k p t (u ∷ v ∷ us) h d w =
      split (joins k t u v)
      (λ e. rw e (join_from-differ k p (token (class t) (len t + len u + len v) true) us h d (rw (joined-class k t u v e) w.2.2)))
      (λ e. rw e (h, d, join_from-differ k (class t) u (v ∷ us) w.0 w.1 w.2))

  pub join-differ : (k p : ℕ) (ts : List Token) → Differ p ts → Differ p (join k ts)
  join-differ k p [] h = tt
  join-differ k p (t ∷ ts) h = join_from-differ k p t ts h.0 h.1 h.2

  pub absorb-within : (j : ℕ) {ts : List Token} → Within ts → Within (absorb j ts)
  absorb-within j none = none
  absorb-within j (h & none) = h & none
  absorb-within j (h & (◌&◌ {x = u} g gs)) = split (short j u) (λ e. rw e (h & absorb-within j gs)) (λ e. rw e (h & absorb-within j (g & gs)))

  pub drop-within : {ts : List Token} → Within ts → Within (drop_ones ts)
  drop-within none = none
  drop-within (◌&◌ {x = t} h hs) = split (eqb (class t) 0 && eqb (len t) 1) (λ e. rw e (drop-within hs)) (λ e. rw e (h & drop-within hs))

  keep-below : (c : ℕ) (cs : List ℕ) → c ≤ K → Below cs → Below (keep c cs)
  keep-below zero [] h w = none
  keep-below zero (d ∷ cs) h w = h & w
  keep-below (suc c) cs h w = h & w

  last-below : {cs : List ℕ} → Below cs → Below (to_last cs)
  last-below none = none
  last-below (◌&◌ {x = c} {xs = cs} h hs) = keep-below c (to_last cs) h (last-below hs)

  first_below : (cs : List ℕ) → Below cs → Below (from_first cs)
  first_below [] h = none
  first_below (zero ∷ cs) (h & hs) = first_below cs hs
  first_below (suc c ∷ cs) h = h

pub class-below : (d : ℕ) → class_of d ≤ 4
unfolding class_of
class-below d =
    split (ltb d 16) (λ e. rw e (omega arith))
    (λ e. rw e (split (ltb d 20) (λ e. rw e (omega arith))
    (λ e. rw e (split (ltb d 24) (λ e. rw e (omega arith))
    (λ e. rw e (split (ltb d 32) (λ e. rw e (omega arith)) (λ e. rw e (omega arith))))))))

classes-below : (m : List ℕ) → Below 4 (classes m)
classes-below [] = none
classes-below (d ∷ m) = class-below d & classes-below m

flat-one : (c : ℕ) → flat c ≤ 1
flat-one zero = omega arith
flat-one (suc c) = omega arith

flat-below : (cs : List ℕ) → Below 1 (map flat cs)
flat-below [] = none
flat-below (c ∷ cs) = flat-one c & flat-below cs

-- the tokens of a chart: classes up to 4, neighbours differ
pub tokens-differ : (m : List ℕ) → Differ 4 5 (tokens (classes m))
unfolding tokens active
tokens-differ m = runs-differ 4 4 (active (classes m)) (omega arith) (last-below 4 (first_below 4 (classes m) (classes-below m)))

-- its pieces and gaps: classes 1 and 0 in turn, a piece first
pub pieces-differ : (cs : List ℕ) → Differ 1 0 (pieces cs)
unfolding pieces active
pieces-differ [] = tt
pieces-differ (zero ∷ cs) = pieces-differ cs
pieces-differ (suc c ∷ cs) = from-differ 1 0 1 1 (map flat (to_last cs)) (omega arith) (omega arith) (flat-below (to_last cs))
