-- `sn_to_standard::copy::add_block` meets its contract.
-- Assumes nothing.
use Rattle.std.proofs.Common.{◌<◌, length, length-take, take, get_or, arith}
use Rattle.number.proofs.Grown.{grown}
use Rattle.sn_to_standard.specs.Copied.{kept_byte, kept}
use Rattle.sn_to_standard.proofs.Blocks.{kept-most, kept_more}
use Rattle.sn_to_standard.proofs.copy.add_block.Goals as goal

pub add_kept-k-requires : goal.add_kept-k-requires
add_kept-k-requires c =
    let l = c.loop-b in
    let block = c.args.block.now in
    omega (arith, kept-most (take l.b-index block), length-take l.b-index block)

pub loop-b-preserved : goal.loop-b-preserved
loop-b-preserved c =
    let l = c.loop-b in
    let block = c.args.block.now in
    let h : l.b-index < length block = omega arith in
    rw (kept_more block l.b-index h) (grown (kept (take l.b-index block)) (kept_byte (get_or block l.b-index 0)) l.invariant c.add_kept-k.ensures)
