-- `segments::stream_sequences` meets its contract. The loop's invariant: the first i segments are written, and the iterator has the others left.
-- Assumes nothing.
use Rattle.std.proofs.Common.{◌≡◌, length, arith, ap, ◌∙◌}
use Rattle.std.proofs.lemmas.List.{set-get_or}
use Rattle.rules.specs.Chart.{classes}
use Rattle.rules.specs.Calls.{segments}
use Rattle.segments.proofs.Written.{writing-starts, writing-more, writing-ends, all-written}
use Rattle.segments.proofs.stream_sequences.Goals as goal

pub loop-i-init : goal.loop-i-init
loop-i-init c = writing-starts _ _ _ (c.new-segments.ensures ∙ ap (λ m. segments (classes m)) c.in_ok-measures.ensures.chart)

pub loop-i-preserved : goal.loop-i-preserved
loop-i-preserved c = writing-more c.loop-i.invariant c.in-Some.segment _ c.in-Some.ensures.steps c.loop-i-test.true

pub returns-in_default : goal.returns-in_default
returns-in_default c =
    let in_ok = c.in_ok-measures.ensures in
    let places = rw in_ok.chart at c.in_ok-check_places.ensures in
    rw set-get_or (writing-ends c.loop-i.invariant in_ok.no places c.in_default.ensures.steps.0)

pub returns : goal.returns
returns c =
    let in_ok = c.in_ok-measures.ensures in
    let places = rw in_ok.chart at c.in_ok-check_places.ensures in
    let i : c.loop-i.i ≡ length c.loop-i.out = omega arith in
    rw (← i) (writing-ends c.loop-i.invariant in_ok.no places (all-written c.loop-i.invariant places (omega arith)))
