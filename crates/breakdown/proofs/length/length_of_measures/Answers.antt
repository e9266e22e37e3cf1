-- `breakdown::length::length_of_measures` meets its contract.
-- Assumes nothing.
use Rattle.breakdown.proofs.Tallied.{tally-starts, tally-ready, tally-on}
use Rattle.breakdown.proofs.length.length_of_measures.Goals as goal

pub loop-parts-init : goal.loop-parts-init
loop-parts-init c = rw c.after-parts.ensures (tally-starts c.args.part.alternates c.in-Some.ensures _ c.first_tally-tally.ensures)

pub tally_part-tally-requires : goal.tally_part-tally-requires
tally_part-tally-requires c =
    let p = c.read.ensures.part c.loop-parts-test.true in
    rw (c.tokens.ensures.classes, c.tokens.ensures.lengths) (tally-ready c.args.part.few p _ c.loop-parts.invariant)

pub loop-parts-preserved : goal.loop-parts-preserved
loop-parts-preserved c =
    let p = c.read.ensures.part c.loop-parts-test.true in
    tally-on c.args.part.few p _ c.loop-parts.invariant (rw (c.tokens.ensures.classes, c.tokens.ensures.lengths) at c.tally_part-tally.ensures)
