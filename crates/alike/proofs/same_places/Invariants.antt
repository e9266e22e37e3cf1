-- `alike::same_places` meets its contract: the loop's invariant and its steps are `Same`'s.
-- Assumes nothing.
use Rattle.alike.proofs.Same.{Agree}
use Rattle.alike.proofs.same_places.Given as goal

abbrev pub invariant-loop-i : goal.invariant-loop-i
invariant-loop-i l = Agree l.a l.b l.i
