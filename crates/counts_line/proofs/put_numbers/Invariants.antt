-- `counts_line::put_numbers` meets its contract.
-- Assumes nothing.
use Rattle.counts_line.proofs.Numbers.{Numbering}
use Rattle.counts_line.proofs.put_numbers.Given as goal

abbrev pub invariant-loop-n : goal.invariant-loop-n
invariant-loop-n l = Numbering l.width l.rest l.initial.out l.initial.place l.out l.place l.n-index
