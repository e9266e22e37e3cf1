-- `standard_text::standard::standard_part_length` meets its contract.
-- Assumes nothing.
use native.Mathlib.Nat.{add-zero}
use mathlib.Core.Path.{refl, sym}
use native.Mathlib.Omega.{arith}
use Rattle.standard_text.proofs.StandardParts.{ahead-next, ahead-none, run-step, over-step, apart-step, counting-starts, counting-step, counting-end, nothing}
use Rattle.standard_text.proofs.standard.standard_part_length.Goals as goal
use Rattle.standard_text.proofs.standard.standard_part_length.Goals.{then-class-ne0, else-class-ne0+then-n-limit, else-class-ne0+else-n-limit}

pub loop-i-init : goal.loop-i-init
loop-i-init c = counting-starts _ _ _ _ _ _ c.requires.0

pub loop-i-preserved : goal.loop-i-preserved
loop-i-preserved c =
    let p = rw (ahead-next _ _ _ c.args.tokens.paired c.loop-i-test.true) at c.loop-i.invariant in
    elim c.if-class-ne0.branch [
      | then-class-ne0 w ↦ rw (w.total-is, w.open-is)
          (counting-step _ _ _ _ _ _ p (run-step _ _ _ _ _ _ _ p.follows (omega arith) w.if-class-ne0.true) nothing (sym (add-zero _)))
      | else-class-ne0+then-n-limit w ↦ rw (w.total-is, w.open-is)
          (counting-step _ _ _ _ _ _ p (over-step _ _ _ _ _ _ _ p.follows (omega arith) (omega (arith, w.if-class-ne0.false)) w.if-n-limit.true) nothing
          (sym (add-zero _)))
      | else-class-ne0+else-n-limit w ↦ rw (w.total-is, w.open-is)
          (counting-step _ _ _ _ _ _ p (apart-step _ _ _ _ _ _ _ p.follows (omega arith) (omega (arith, w.if-class-ne0.false)) w.if-n-limit.false)
          w.done_length-total.ensures refl)
    ]

pub returns : goal.returns
returns c = counting-end _ _ _ _ _ _ (rw (ahead-none _ _ _ c.loop-i-test.false) at c.loop-i.invariant)
