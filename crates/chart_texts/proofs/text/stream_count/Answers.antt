-- `chart_texts::text::stream_count` meets its contract.
-- Assumes nothing.
use Rattle.std.proofs.Common.{arith}
use Rattle.counts.proofs.Shared.{known}
use Rattle.chart_texts.proofs.text.stream_count.Goals as goal

pub stream_measures-requires : goal.stream_measures-requires
stream_measures-requires c =
    let k = known c.args.chart.measures.now _ c.args.chart.few.few c.chart_counts.ensures in omega arith

pub returns : goal.returns
returns c = let k = known c.args.chart.measures.now _ c.args.chart.few.few c.chart_counts.ensures in cc (c.from.ensures, k.sum)
