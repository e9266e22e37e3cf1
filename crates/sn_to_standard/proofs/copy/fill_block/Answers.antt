-- `sn_to_standard::copy::fill_block` meets its contract.
-- Assumes nothing.
use Rattle.std.proofs.Common.{◌<◌, ◌∙◌, length, length-set, arith}
use Rattle.sn_to_standard.proofs.Blocks.{fill_on}
use Rattle.sn_to_standard.proofs.copy.fill_block.Goals as goal

pub loop-j-preserved : goal.loop-j-preserved
loop-j-preserved c =
    let l = c.loop-j in
    let h : l.j < length l.block = omega arith in (
      length-set l.block l.j c.shown_byte.result ∙ l.invariant.0,
      fill_on c.requires.0 l.j c.loop-j-test.true l.block c.shown_byte.result h l.invariant.1 c.shown_byte.ensures,
    )
