-- `standard_text::standard::standard_part` meets its contract.
-- Assumes nothing.
use native.Mathlib.Omega.{arith}
use Rattle.number.proofs.Grown.{within}
use Rattle.text_buffer.proofs.Added.{added_none, grown-added}
use Rattle.standard_text.proofs.StandardParts.{ahead-next, ahead-none, run-step, over-step, apart-step, part-starts, part_room, part_step, part_end}
use Rattle.standard_text.proofs.standard.standard_part.Goals as goal
use Rattle.standard_text.proofs.standard.standard_part.Goals.{then-class-ne0, else-class-ne0+then-n-limit, else-class-ne0+else-n-limit}

pub loop-i-init : goal.loop-i-init
loop-i-init c = part-starts _ _ _ _ _ _ _ _ _ c.requires.tokens c.requires.ready.few

pub flush-to-requires : goal.flush-to-requires
flush-to-requires c =
    let p = rw (ahead-next _ _ _ c.args.tokens.paired c.loop-i-test.true) at c.loop-i.invariant in
    let g = c.add_piece-full.ensures in
    let s = apart-step _ _ _ _ _ _ _ p.follows (omega arith) (omega (arith, c.if-class-ne0.false)) c.if-n-limit.false in (
      within _ (omega (arith, p.written.wrote.long, p.written.wrote.few, c.requires.ready.long)) g,
      rw g.front (part_room _ _ _ _ _ _ _ _ _ p s c.requires.room),
    )

pub loop-i-preserved : goal.loop-i-preserved
loop-i-preserved c =
    let p = rw (ahead-next _ _ _ c.args.tokens.paired c.loop-i-test.true) at c.loop-i.invariant in
    let none = added_none p.written.wrote.few in
    elim c.if-class-ne0.branch [
      | then-class-ne0 w ↦ rw (w.buf-is, w.out-is, w.to-is, w.open-is) (part_step _ _ _ _ _ _ _ _ _ p (run-step _ _ _ _ _ _ _ p.follows (omega arith) w.if-class-ne0.true) none)
      | else-class-ne0+then-n-limit w ↦ rw (w.buf-is, w.out-is, w.to-is, w.open-is)
          (part_step _ _ _ _ _ _ _ _ _ p (over-step _ _ _ _ _ _ _ p.follows (omega arith) (omega (arith, w.if-class-ne0.false)) w.if-n-limit.true) none)
      | else-class-ne0+else-n-limit w ↦ rw (w.buf-is, w.out-is, w.to-is, w.open-is)
          (part_step _ _ _ _ _ _ _ _ _ p (apart-step _ _ _ _ _ _ _ p.follows (omega arith) (omega (arith, w.if-class-ne0.false)) w.if-n-limit.false)
          (grown-added _ w.add_piece-full.ensures w.flush-to.ensures))
    ]

pub returns : goal.returns
returns c = part_end _ _ _ _ _ _ _ _ _ c.loop-i.invariant (ahead-none _ _ _ c.loop-i-test.false)
