-- What the standard detailed text tells: how long the active part is, and where in it the stream measures stand.
-- Assumes nothing.
use Prim.Native.Nat.{ℕ, zero, suc, suc-le-suc}
use mathlib.Core.Path.{◌≡◌, refl, sym, ap, ◌∙◌}
use mathlib.Core.Bool.{Bool, false}
use mathlib.Core.Logic.{◌↔◌, inl, inr}
use mathlib.Core.List.{List, [], ◌∷◌, ◌++◌, map}
use native.Mathlib.Nat.{not-suc-le-zero, suc-ne-zero}
use native.Mathlib.Omega.{arith}
use lib.Dec.{eqb}
use lib.ListN.{length, get_or, replicate, length-map, get_or-map}
use lib.Seq.{ext_get_or}
use borrow.Author.Tests.{eqb-true}
use Rattle.rules.specs.Chart.{active, Token, token, runs_from, runs, flat}
use Rattle.rules.specs.Reduced.{Item, run, gap, sign, sum, item, pieces, standard, reduced}
use Rattle.rules.specs.declared.StreamBreakdownLevel.TheVariants as Level
use Rattle.rules.specs.Demand.{Stream, NoStream, SamePlaces, SameStreams}
use Rattle.number.proofs.Split.{split}

-- ---- A cut into runs can be undone

-- items written out again, measure by measure
abbrev expand : List Item → List ℕ
expand [] = []
expand (run c n s ∷ is) = replicate n 1 ++ expand is
expand (gap n ∷ is) = replicate n 0 ++ expand is
expand (sign s ∷ is) = expand is
expand (sum n ∷ is) = expand is

abbrev written : List Token → List ℕ
written ts = expand (map (item gap) ts)

token-written : (c n : ℕ) (s : Bool) (ts : List Token) → written (token (flat c) n s ∷ ts) ≡ replicate n (flat c) ++ written ts
token-written zero n s ts = refl
token-written (suc c) n s ts = refl

one_more : (n a : ℕ) (xs : List ℕ) → a ∷ replicate n a ++ xs ≡ replicate n a ++ (a ∷ xs)
one_more zero a xs = refl
one_more (suc n) a xs = ap {B = List ℕ} (λ r. a ∷ r) (one_more n a xs)

from-written : (c n : ℕ) (cs : List ℕ) → written (runs_from (flat c) n (map flat cs)) ≡ replicate n (flat c) ++ map flat cs
from-written c n [] = token-written c n false []
from-written c n (d ∷ cs) =
    split (eqb (flat c) (flat d))
    (λ e. rw (e, ← (eqb-true (flat c) (flat d) e)) (from-written c (suc n) cs ∙ one_more n (flat c) (map flat cs)))
    (λ e. rw e (token-written c n false (runs_from (flat d) 1 (map flat cs)) ∙ ap (λ (r : List ℕ). replicate n (flat c) ++ r) (from-written d 1 cs)))

runs-written : (cs : List ℕ) → written (runs (map flat cs)) ≡ map flat cs
runs-written [] = refl
runs-written (c ∷ cs) = from-written c 1 cs

-- ---- Places

flat-stream : (c d : ℕ) → flat c ≡ flat d → Stream c → Stream d
flat-stream zero d e h = omega arith
flat-stream (suc c) zero e h = omega arith
flat-stream (suc c) (suc d) e h = omega arith

stream-flat : (c d : ℕ) → Stream c ↔ Stream d → flat c ≡ flat d
stream-flat zero zero h = refl
stream-flat zero (suc d) h = absurd (not-suc-le-zero (h.1 (omega arith)))
stream-flat (suc c) zero h = absurd (not-suc-le-zero (h.0 (omega arith)))
stream-flat (suc c) (suc d) h = refl

flat-places : (x y : List ℕ) → map flat x ≡ map flat y → SamePlaces x y
flat-places x y e =
    record {
      long = sym (length-map x flat) ∙ ap length e ∙ length-map y flat;
      places = λ i h. (flat-stream (get_or x i 0) (get_or y i 0) (at i), flat-stream (get_or y i 0) (get_or x i 0) (sym (at i)));
    }
  where
    at : (i : ℕ) → flat (get_or x i 0) ≡ flat (get_or y i 0)
    at i = sym (get_or-map flat x i 0) ∙ ap (λ (l : List ℕ). get_or l i 0) e ∙ get_or-map flat y i 0

places-flat : (x y : List ℕ) → SamePlaces x y → map flat x ≡ map flat y
places-flat x y h =
    ext_get_or 0 (map flat x) (map flat y) (length-map x flat ∙ h.long ∙ sym (length-map y flat))
    (λ i k. get_or-map flat x i 0 ∙ stream-flat (get_or x i 0) (get_or y i 0) (h.places i (rw length-map at k)) ∙ sym (get_or-map flat y i 0))

pub no-active : (cs : List ℕ) → NoStream cs → active cs ≡ []
unfolding active
no-active [] h = refl
no-active (zero ∷ cs) h = no-active cs (λ i k. h (suc i) (suc-le-suc k))
no-active (suc c ∷ cs) h = absurd (suc-ne-zero c (h 0 (omega arith)))

-- the reduced lists of the standard detailed text are the same exactly when there is no stream measure in either, or the active parts agree
pub detailed-tells : (a b : List ℕ)
    → (reduced (standard Level.Detailed) a ≡ reduced (standard Level.Detailed) b) ↔ SameStreams a b
unfolding reduced pieces
detailed-tells a b = (λ e. inr (flat-places (active a) (active b) (sym (runs-written (active a)) ∙ ap expand e ∙ runs-written (active b))), back)
  where
    back : SameStreams a b → reduced (standard Level.Detailed) a ≡ reduced (standard Level.Detailed) b
    back (inl n) = rw (no-active a n.0, no-active b n.1)
    back (inr s) = ap (λ (x : List ℕ). map (item gap) (runs x)) (places-flat (active a) (active b) s)
