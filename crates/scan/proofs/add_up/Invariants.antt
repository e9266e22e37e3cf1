-- `scan::add_up` meets its contract: the loop's invariant and its steps are `Adding`'s.
-- Assumes nothing.
use Rattle.std.proofs.Common.{length}
use Rattle.scan.proofs.Adding.{Adding}
use Rattle.scan.proofs.add_up.Given as goal

abbrev pub invariant-loop-x : goal.invariant-loop-x
invariant-loop-x l = Adding l.tokens.classes.now l.tokens.lengths.now l.sums (length l.yielded)
