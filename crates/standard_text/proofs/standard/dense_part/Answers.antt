-- `standard_text::standard::dense_part` meets its contract.
-- Assumes nothing.
use native.Mathlib.Omega.{arith}
use Rattle.standard_text.proofs.StandardParts.{chunks-all, NextSixteen, chunks-next, paired-few, filled-step, part-starts, part_room, part_step}
use Rattle.standard_text.proofs.standard.dense_part.Goals as goal
use Rattle.standard_text.proofs.standard.dense_part.Goals.{In-Some}

pub loop-classes-init : goal.loop-classes-init
loop-classes-init c =
    let z = c.zip-classes-items.ensures in
    let i = c.chunks.ensures in
    let j = c.chunks-2.ensures in
    let a =
    chunks-all _ _ _ _ _ _ c.into_iter-classes-iterator.ensures.into_iter_gives z.first z.second i.rest j.rest i.size j.size c.args.tokens.paired in (
      (omega (arith, a.0.first), omega (arith, a.0.second)),
      tt,
      a.0,
      rw a.1 (part-starts _ _ _ _ _ _ _ _ _ c.requires.tokens c.requires.ready.few),
    )

-- the next 16
next : (c : In-Some) → NextSixteen c.loop-classes.classes-iterator c.in-Some.classes.now c.in-Some.lengths.now c.next.new.self
next c = chunks-next _ _ _ _ c.in-Some.is c.next.ensures.steps c.loop-classes.invariant.2

pub put_pieces-to-requires : goal.put_pieces-to-requires
put_pieces-to-requires c =
    let n = next (goal.at.put_pieces-to-requires c).In-Some in
    let p = rw n.tokens at c.loop-classes.invariant.3 in
    let a = p.written.wrote in (
      omega (arith, n.few, c.fill-f.ensures.few, paired-few c.in-Some.classes.now c.in-Some.lengths.now),
      record { long = omega (arith, a.long, c.requires.ready.long); few = a.few },
      part_room _ _ _ _ _ _ _ _ _ p (filled-step c.args.signs _ _ c.fill-f.ensures p.follows) c.requires.room,
    )

pub loop-classes-preserved : goal.loop-classes-preserved
loop-classes-preserved c =
    let n = next (goal.at.loop-classes-preserved c).In-Some in
    let p = rw n.tokens at c.loop-classes.invariant.3 in (
      (omega (arith, n.left.first), omega (arith, n.left.second)),
      tt,
      n.left,
      part_step _ _ _ _ _ _ _ _ _ p (filled-step c.args.signs _ _ c.fill-f.ensures p.follows) c.put_pieces-to.ensures,
    )
