-- `chart_list::charts::fill_chart` meets its contract: the measures stay within the slice, which keeps its length.
-- Assumes nothing.
use Rattle.std.proofs.Common.{◌≡◌, ◌≤◌, length}
use Rattle.chart_list.proofs.charts.fill_chart.Given as goal

abbrev pub invariant-loop-item : goal.invariant-loop-item
invariant-loop-item l = (l.measures ≤ length l.out) × (length l.out ≡ length l.initial.out)
