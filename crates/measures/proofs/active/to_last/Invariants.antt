-- `measures::active::to_last` meets its contract: the loop's invariant and its steps are `Part`'s.
-- Assumes nothing.
use Rattle.measures.proofs.Part.{Back}
use Rattle.measures.proofs.active.to_last.Given as goal

abbrev pub invariant-loop-last : goal.invariant-loop-last
invariant-loop-last l = Back l.m l.last
