-- `record::place::place_densities` meets its contract.
-- Assumes nothing.
use Rattle.record.proofs.Placing.{Placing}
use Rattle.record.proofs.place.place_densities.Given as goal

abbrev pub invariant-loop-field : goal.invariant-loop-field
invariant-loop-field l = Placing l.bytes l.initial.densities l.densities l.field-iterator.0.now l.count
