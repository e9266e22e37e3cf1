-- Demand 3 for segments: charts of equal classes have equal answers and, in like slices, equal records.
-- Assumes nothing.
use Prim.Native.Nat.{ℕ}
use mathlib.Core.Path.{◌≡◌, sym, ◌∙◌}
use mathlib.Core.List.{List}
use lib.ListN.{length}
use Rattle.rules.specs.Chart.{classes}
use Rattle.rules.specs.declared.StreamSegment.{StreamSegment}
use Rattle.rules.proofs.Demand.{same_length}
use Rattle.segments.specs.Promises.{Segmented, nth_segment}
use Rattle.segments.specs.declared.SegmentsAnswer.{SegmentsAnswer}

module _ (a b : List ℕ) (same : classes a ≡ classes b) where
  long : length a ≡ length b
  long = same_length a b same

  pub same-segments : {old new new' : List StreamSegment} {r r' : SegmentsAnswer} → Segmented a old new r → Segmented b old new' r' → (r ≡ r') × (new ≡ new')
  same-segments p q = (p.answer ∙ rw (long, same) (sym q.answer), p.records ∙ rw (long, same) (sym q.records))

  pub same-nth : (k : ℕ) → nth_segment k a ≡ nth_segment k b
  unfolding nth_segment
  same-nth k = rw (long, same)
