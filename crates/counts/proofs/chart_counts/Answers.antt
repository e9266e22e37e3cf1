-- `counts::chart_counts` meets its contract.
-- Assumes nothing.
use mathlib.Core.Path.{ap, ◌∙◌}
use Rattle.counts.specs.Sums.{sums_of}
use Rattle.measures.proofs.Part.{part-runs}
use Rattle.counts.proofs.Tallied.{closed}
use Rattle.counts.proofs.chart_counts.Goals as goal

pub tally-sums-requires : goal.tally-sums-requires
tally-sums-requires c = closed c.args.chart.measures.now _ c.args.chart.few.few c.active_behind-part.ensures

pub counted-requires : goal.counted-requires
counted-requires c =
    let e = c.active_behind-part.ensures in
    record {
      few = c.args.chart.few.few;
      led = c.lead_in-lead.ensures;
      active = e;
      held = c.tally-sums.ensures ∙ ap sums_of (part-runs c.args.chart.measures.now _ e);
    }
