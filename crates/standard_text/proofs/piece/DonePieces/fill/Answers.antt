-- `standard_text::piece::DonePieces::fill` meets its contract.
-- Assumes nothing.
use mathlib.Core.Path.{refl, ◌∙◌}
use native.Mathlib.Omega.{arith}
use Rattle.standard_text.proofs.StandardParts.{ahead-next, ahead-none, paired-few, stored-long, filling-step, filling-ends}
use Rattle.standard_text.proofs.piece.DonePieces.fill.Goals as goal
use Rattle.standard_text.proofs.piece.DonePieces.fill.Goals.{then-shown, else-shown}

pub loop-i-preserved : goal.loop-i-preserved
loop-i-preserved c =
    let f = rw (ahead-next _ _ _ c.args.tokens.paired c.loop-i-test.true) at c.loop-i.invariant.0 in
    let long = c.loop-i.invariant.1 in
    let o = c.after-open.ensures in (
      filling-step f (omega arith) long (omega (arith, f.few, paired-few c.args.tokens.classes.now c.args.tokens.lengths.now)) refl o.length o.starred
          (elim c.if-shown.branch [ then-shown w ↦ w.count-is ∙ rw w.if-shown.true | else-shown w ↦ w.count-is ∙ rw w.if-shown.false ]),
      stored-long _ _ _ _ _ long,
    )

pub returns : goal.returns
returns c = filling-ends _ _ (rw (ahead-none _ _ _ c.loop-i-test.false) at c.loop-i.invariant.0)
