-- `chart_texts::three::write_three` meets its contract: the texts before kind number i are written, one after the other.
-- Assumes nothing.
use Rattle.chart_texts.proofs.EndToEnd.{Going}
use Rattle.chart_texts.proofs.three.write_three.Given as goal

abbrev pub invariant-loop-i : goal.invariant-loop-i
invariant-loop-i l = Going l.chart.measures.now l.kind-items l.initial.out l.i l.out l.at l.lengths
