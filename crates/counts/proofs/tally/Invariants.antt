-- `counts::tally` meets its contract: the loop's invariant and its steps are `Tallied`'s.
-- Assumes nothing.
use Rattle.counts.proofs.Tallied.{Telling}
use Rattle.counts.proofs.tally.Given as goal

abbrev pub invariant-loop-x : goal.invariant-loop-x
invariant-loop-x l = Telling l.m l.from16 l.from20 l.from24 l.from32 l.alone l.before l.last l.x-index
