-- What SN detailed text says of a chart: its items are in order; an undecided gap taken as 0 adds no measures; where nothing is undecided, the
-- text tells the chart's tokens and its pieces.
-- Assumes nothing.
use Prim.Native.Nat.{ℕ, zero, suc, ◌≤◌}
use mathlib.Core.Path.{◌≡◌, refl, sym}
use mathlib.Core.Bool.{false, and-false, false≢true}
use mathlib.Core.Logic.{◌≢◌, ◌⊎◌, inl, inr}
use mathlib.Core.List.{List, [], ◌∷◌, map}
use native.Mathlib.Omega.{arith}
use lib.Dec.{leb, eqb}
use borrow.Author.Tests.{eqb-true, eq-eqb, ne_eqb}
use Rattle.number.proofs.Split.{split}
use Rattle.rules.specs.Chart.{Token, token, runs_from, runs, flat}
use Rattle.rules.specs.Slices.{total}
use Rattle.rules.specs.Reduced.{drop_ones}
use Rattle.rules.proofs.Shape.{Differ}
use Rattle.sn_to_standard.specs.Converted.{one_class, two_classes, with_gaps, undecided, piece}
use Rattle.sn_to_standard.specs.Laws.{Run, Ordered, last, next, over}
use Rattle.sn_to_standard.proofs.Charts.{one-class-yes, one-class-no, two-classes-yes, two-classes-no, both_false}
use Rattle.sn_to_standard.proofs.Charts.{Behind, end, beside, gap, break, Shows, nothing, first}

-- what is shown
behind-drop : {c n : ℕ} {ts us : List Token} → Run c n → Behind c ts us → drop_ones (token c n false ∷ ts) ≡ token c n false ∷ us
behind-drop {c} r end = rw (ne_eqb c 0 (omega arith))
behind-drop {c} r (beside d k q e b) = rw (ne_eqb c 0 (omega arith), behind-drop q b)
behind-drop {c} r (gap d k q b) = rw (ne_eqb c 0 (omega arith), behind-drop q b)
behind-drop {c} r (break j d k h q b) = rw (ne_eqb c 0 (omega arith), ne_eqb j 1 (omega arith), behind-drop q b)

behind-order : {c n : ℕ} {ts us : List Token} → Run c n → Behind c ts us → Ordered (token c n false ∷ us)
behind-order r end = last r
behind-order r (beside d k q e b) = next r (behind-order q b)
behind-order r (gap d k q b) = next r (behind-order q b)
behind-order r (break j d k h q b) = over r h (behind-order q b)

-- no measures are added
behind-most : {c : ℕ} (n : ℕ) {ts us : List Token} → Behind c ts us → total (with_gaps (token c n false ∷ us)) ≤ total (token c n false ∷ ts)
behind-most n end = omega arith
behind-most {c} n (beside d k r e b) = rw (one-class-no c n d k e) (omega (arith, behind-most k b))
behind-most {c} n (gap d k r b) =
    let most = behind-most k b in
    split (one_class (token c n false) (token d k false)) (λ e. rw e (omega arith)) (λ e. rw e (omega arith))
behind-most n (break j d k h r b) = rw (and-false (leb 1 d)) (omega (arith, behind-most k b))

-- nothing undecided: the tokens are told, and with classes ignored neighbours still differ; p is the class before the first
abbrev Told : ℕ → List Token → List Token → Type 0
Told p us ts = (us ≡ ts) × Differ 1 p (map piece ts)

told-run : (c n : ℕ) {us ts : List Token} → 1 ≤ c → Told 1 us ts → Told 0 (token c n false ∷ us) (token c n false ∷ ts)
told-run zero n h t = absurd (omega arith)
told-run (suc c) n h t = (rw t.0, (omega arith, omega arith, t.1))

told-break : (j : ℕ) {us ts : List Token} → Told 0 us ts → Told 1 (token 0 j false ∷ us) (token 0 j false ∷ ts)
told-break j t = (rw t.0, (omega arith, omega arith, t.1))

behind-told : (c n : ℕ) {ts us : List Token} → Run c n → Behind c ts us → undecided (token c n false ∷ us) ≡ false
    → Told 0 (with_gaps (token c n false ∷ us)) (token c n false ∷ ts)
behind-told c n r end z = told-run c n (omega arith) (refl, tt)
behind-told c n r (beside d k q e b) z = absurd (false≢true (sym (rw (two-classes-yes c n d k (omega arith) (omega arith) e) at z)))
behind-told c n r (gap d k {us = us} q b) z =
    let y = both_false (two_classes (token c n false) (token d k false)) (undecided (token d k false ∷ us)) z in
    rw (one-class-yes c n d k (omega arith) (omega arith) (two-classes-no c n d k (omega arith) (omega arith) y.0))
    (told-run c n (omega arith) (told-break 1 (behind-told d k q b y.1)))
behind-told c n r (break j d k h q b) z =
    rw (and-false (leb 1 d)) (told-run c n (omega arith) (told-break j (behind-told d k q b (rw (and-false (leb 1 d)) at z))))

-- so the pieces are the tokens with classes ignored
runs-flat : (p c n : ℕ) (cs : List ℕ) → Differ 1 p (map piece (runs_from c n cs))
    → (flat c ≢ p) × (runs_from (flat c) n (map flat cs) ≡ map piece (runs_from c n cs))
runs-flat p c n [] = λ h. (h.1, refl)
runs-flat p c n (d ∷ cs) =
    split (eqb c d)
    (λ e. rw (e, ← (eqb-true c d e), eq-eqb (flat c) (flat c) refl) (runs-flat p c (suc n) cs))
    (λ e. rw e (λ h. let t = runs-flat (flat c) d 1 cs h.2 in (h.1, rw (ne_eqb (flat c) (flat d) (λ x. t.0 (sym x)), t.1))))

pub flat-runs : (cs : List ℕ) → Differ 1 0 (map piece (runs cs)) → runs (map flat cs) ≡ map piece (runs cs)
flat-runs [] h = refl
flat-runs (c ∷ cs) h = (runs-flat 0 c 1 cs h).1

-- of a whole chart
pub record Says (ts us : List Token) : Type 0 where
  pub drop : drop_ones ts ≡ us
  pub order : (us ≡ []) ⊎ Ordered us
  pub most : total (with_gaps us) ≤ total ts
  pub told : undecided us ≡ false → Told 0 (with_gaps us) ts

pub says : {ts us : List Token} → Shows ts us → Says ts us
says nothing = record { drop = refl; order = inl refl; most = omega arith; told = λ z. (refl, tt) }
says (first c n r b) = record { drop = behind-drop r b; order = inr (behind-order r b); most = behind-most n b; told = behind-told c n r b }
