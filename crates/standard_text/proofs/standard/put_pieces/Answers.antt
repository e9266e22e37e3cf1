-- `standard_text::standard::put_pieces` meets its contract.
-- Assumes nothing.
use native.Mathlib.Omega.{arith}
use Rattle.number.proofs.Grown.{within}
use Rattle.text_buffer.proofs.Added.{step_room, step}
use Rattle.standard_text.proofs.StandardParts.{done-next, done-split}
use Rattle.standard_text.proofs.standard.put_pieces.Goals as goal

pub flush-to-requires : goal.flush-to-requires
flush-to-requires c =
    let a = c.loop-i.invariant in
    let g = c.add_piece-full.ensures in (
      within _ (omega (arith, a.few, a.long, c.requires.1.long)) g,
      step_room _ a _ g _ (rw (done-split c.args.signs c.args.done.now c.loop-i.i c.args.count (omega arith)).1 at c.requires.2),
    )

pub loop-i-preserved : goal.loop-i-preserved
loop-i-preserved c = rw (done-next c.args.signs) (step _ c.loop-i.invariant _ c.add_piece-full.ensures c.flush-to.ensures)
