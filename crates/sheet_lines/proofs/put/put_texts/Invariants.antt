-- `sheet_lines::put::put_texts` meets its contract.
-- Assumes nothing.
use Rattle.sheet_lines.proofs.Cutting.{Cutting}
use Rattle.sheet_lines.proofs.put.put_texts.Given as goal

abbrev pub invariant-loop-length : goal.invariant-loop-length
invariant-loop-length l = Cutting l.initial.rest l.lengths l.initial.out l.at l.out l.place l.rest l.length-index
