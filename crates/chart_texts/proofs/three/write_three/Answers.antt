-- `chart_texts::three::write_three` meets its contract: the texts before kind number i are written, one after the other.
-- Assumes nothing.
use Rattle.std.proofs.Common.{arith, sym, ◌∙◌}
use borrow.Author.Tests.{leb-true}
use Rattle.chart_texts.proofs.EndToEnd.{room-here, on, written-three}
use Rattle.chart_texts.proofs.three.write_three.Goals as goal

pub put_text-next-requires : goal.put_text-next-requires
put_text-next-requires c =
    room-here c.loop-i.invariant (omega arith) (leb-true _ _ (sym c.texts_fit.ensures ∙ c.if-not-texts_fit.false))

pub loop-i-preserved : goal.loop-i-preserved
loop-i-preserved c = on c.loop-i.invariant (omega arith) c.put_text-next.ensures

pub returns : goal.returns
returns c =
    let chart = c.in_ok-chart in
    written-three chart.ensures.chart chart.chart.few.few (sym c.texts_fit.ensures ∙ c.if-not-texts_fit.false) c.loop-i.invariant (omega arith)
