-- `counts::tally` meets its contract: the loop's invariant and its steps are `Tallied`'s.
-- Assumes nothing.
use Rattle.counts.proofs.Tallied.{begins, tells, ends, ended}
use Rattle.counts.proofs.tally.Goals as goal

pub loop-x-init : goal.loop-x-init
loop-x-init c = begins c.requires

pub loop-x-preserved : goal.loop-x-preserved
loop-x-preserved c =
    rw (
      c.from-from16.ensures,
      c.from-from20.ensures,
      c.from-from24.ensures,
      c.from-from32.ensures,
      c.from-alone.ensures,
    )
    (tells c.loop-x.invariant c.loop-x-test.true)

pub returns : goal.returns
returns c = ended (ends c.loop-x.invariant c.loop-x-test.false)
