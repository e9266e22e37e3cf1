-- `sn_to_standard::copy::add_block` meets its contract.
-- Assumes nothing.
use Rattle.std.proofs.Common.{take}
use Rattle.number.specs.Grown.{Grown}
use Rattle.sn_to_standard.specs.Copied.{kept}
use Rattle.sn_to_standard.proofs.copy.add_block.Given as goal

abbrev pub invariant-loop-b : goal.invariant-loop-b
invariant-loop-b l = Grown l.initial.buf l.buf 0 (kept (take l.b-index l.block)) l.k
