-- `note_rows::measures::read_measures` meets its contract.
-- Assumes nothing.
use Rattle.note_rows.proofs.Passing.{Passing}
use Rattle.note_rows.proofs.measures.read_measures.Given as goal

abbrev pub invariant-loop-line : goal.invariant-loop-line
invariant-loop-line l = Passing l.text l.initial.densities l.densities l.line-iterator.0.now l.rows l.density l.measures
