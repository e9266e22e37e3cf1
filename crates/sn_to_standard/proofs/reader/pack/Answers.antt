-- `sn_to_standard::reader::pack` meets its contract.
-- Assumes nothing.
use native.Mathlib.Omega.{arith}
use Rattle.sn_to_standard.proofs.reader.pack.Goals as goal

pub returns-then-undecided : goal.returns-then-undecided
returns-then-undecided c = rw c.if-undecided.true

pub returns : goal.returns
returns c = rw c.if-undecided.false (omega arith)
