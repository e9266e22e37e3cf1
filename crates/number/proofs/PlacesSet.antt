-- Laws of `PlacesSet`: one place more, one stretch behind the other, and what a stretch holds said otherwise.
-- Assumes nothing.
use Prim.Native.Nat.{ℕ, ◌+◌, ◌-◌, ◌<◌}
use mathlib.Core.Path.{◌≡◌, refl, ◌∙◌}
use mathlib.Core.List.{List}
use native.Mathlib.Omega.{arith}
use lib.Dec.{ltb}
use lib.ListN.{length, set, length-set}
use lib.Seq.{get_or-set_same, get_or-set_other}
use borrow.Author.Count.{below_none, below_more}
use borrow.Author.Tests.{ltb-true, ltb-false}
use Rattle.number.proofs.Split.{split}
use Rattle.number.specs.PlacesSet.{PlacesSet}

module _ {Holds : ℕ → ℕ → Type 0} {from : ℕ} {old : List ℕ} where
  pub places-none : PlacesSet Holds from 0 old old
  places-none = record { inside = below_none _; before = λ i h. refl; behind = λ i h. refl; long = refl }

  pub places-more : (n w : ℕ) {mid : List ℕ} → from + n < length old → PlacesSet Holds from n old mid → Holds n w
      → PlacesSet Holds from (n + 1) old (set mid (from + n) w)
  places-more n w {mid} l s h =
      record {
        inside =
            below_more _ n
            (λ i k. rw (get_or-set_other mid (from + n) (from + i) w 0 (λ e. omega arith)) (s.inside i k))
            (rw (get_or-set_same mid (from + n) w 0 (omega (arith, s.long))) h);
        before = λ i k. get_or-set_other mid (from + n) i w 0 (λ e. omega arith) ∙ s.before i k;
        behind = λ i k. get_or-set_other mid (from + n) i w 0 (λ e. omega arith) ∙ s.behind i (omega arith);
        long = length-set mid (from + n) w ∙ s.long;
      }

  pub places_same : {Same : ℕ → ℕ → Type 0} {n : ℕ} {new : List ℕ} → ((i v : ℕ) → i < n → Holds i v → Same i v)
      → PlacesSet Holds from n old new → PlacesSet Same from n old new
  places_same f s = record { inside = λ i k. f i _ k (s.inside i k); before = s.before; behind = s.behind; long = s.long }

  pub places-on : {Then : ℕ → ℕ → Type 0} (n m : ℕ) {mid new : List ℕ} → ((i v : ℕ) → i < m → Then i v → Holds (n + i) v)
      → PlacesSet Holds from n old mid → PlacesSet Then (from + n) m mid new → PlacesSet Holds from (n + m) old new
  places-on n m f s t =
      record {
        inside = λ i k.
            split (ltb i n)
            (λ b. let h = ltb-true i n b in rw (t.before (from + i) (omega arith)) (s.inside i h))
            (λ b. let h = ltb-false i n b in
            let e : n + (i - n) ≡ i = omega arith in
            let p : from + n + (i - n) ≡ from + i = omega arith in
            rw (e, p) at (f (i - n) _ (omega arith) (t.inside (i - n) (omega arith))));
        before = λ i k. t.before i (omega arith) ∙ s.before i k;
        behind = λ i k. t.behind i (omega arith) ∙ s.behind i (omega arith);
        long = t.long ∙ s.long;
      }
