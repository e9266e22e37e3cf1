-- `sn_to_standard::copy::copied_length` meets its contract.
-- Assumes nothing.
use Rattle.std.proofs.Common.{◌≡◌, length, take}
use Rattle.sn_to_standard.specs.Copied.{kept}
use Rattle.sn_to_standard.proofs.copy.copied_length.Given as goal

abbrev pub invariant-loop-b : goal.invariant-loop-b
invariant-loop-b l = l.n ≡ length (kept (take l.b-index l.text))
