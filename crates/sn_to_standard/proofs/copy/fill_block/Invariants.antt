-- `sn_to_standard::copy::fill_block` meets its contract.
-- Assumes nothing.
use Rattle.std.proofs.Common.{◌≡◌, length, take}
use Rattle.sn_to_standard.specs.Copied.{shown_part}
use Rattle.sn_to_standard.proofs.copy.fill_block.Given as goal

abbrev pub invariant-loop-j : goal.invariant-loop-j
invariant-loop-j l = (length l.block ≡ 256) × (take l.j l.block ≡ shown_part l.text l.i l.j)
