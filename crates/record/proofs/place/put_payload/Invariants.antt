-- `record::place::put_payload` meets its contract.
-- Assumes nothing.
use Rattle.number.proofs.Place.{Putting}
use Rattle.record.proofs.place.put_payload.Given as goal

abbrev pub invariant-loop-i : goal.invariant-loop-i
invariant-loop-i l = Putting l.payload l.initial.densities l.at l.densities l.i
