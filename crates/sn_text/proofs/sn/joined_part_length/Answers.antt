-- `sn_text::sn::joined_part_length` meets its contract: the loop's steps are `SnParts`'s.
-- Assumes nothing.
use mathlib.Core.Path.{sym, ◌∙◌}
use native.Mathlib.Omega.{arith}
use borrow.Author.Tests.{eq-eqb, ne_eqb}
use Rattle.sn_text.proofs.SnParts.{counting-joins, counting-next, counting-ends}
use Rattle.sn_text.proofs.sn.joined_part_length.Goals as goal
use Rattle.sn_text.proofs.sn.joined_part_length.Goals.{else-joins, then-joins}

pub loop-i-preserved : goal.loop-i-preserved
loop-i-preserved c =
    let w = c.loop-i.invariant in
    let a = c.dense_run_place-t.ensures in
    let j = c.join_class.ensures in
    elim c.if-joins.branch [
      | then-joins x ↦ rw (x.more-is, eq-eqb _ _ x.if-joins.true) (counting-joins w a (x.if-joins.true ∙ j) (omega arith) (omega arith))
      | else-joins x ↦ rw (x.more-is, ne_eqb _ _ x.if-joins.false)
          (counting-next w a (λ e. x.if-joins.false (e ∙ sym j)) (omega arith) c.ended_length-apart.ensures)
    ]

pub returns : goal.returns
returns c = counting-ends c.loop-i.invariant (omega arith)
