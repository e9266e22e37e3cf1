-- `number::put_by_fours` meets its contract: the loop's invariant and its steps are `Backward`'s.
-- Assumes nothing.
use Rattle.number.proofs.Backward.{Going}
use Rattle.number.proofs.put_by_fours.Given as goal

abbrev pub invariant-loop-rest : goal.invariant-loop-rest
invariant-loop-rest l = Going l.n l.initial.out l.out l.k l.rest

abbrev pub decreases-loop-rest : goal.decreases-loop-rest
decreases-loop-rest l = l.rest
