-- `counts::share::share` meets its contract.
-- Assumes nothing.
use mathlib.Core.Path.{◌≡◌, sym, ◌∙◌}
use native.Mathlib.Omega.{arith}
use borrow.Author.Tests.{le-leb, lt-ltb}
use Rattle.rules.specs.Chart.{classes, streams}
use Rattle.counts.proofs.Shared.{known}
use Rattle.counts.proofs.share.share.Goals as goal

pub stream_measures-streams-requires : goal.stream_measures-streams-requires
stream_measures-streams-requires c =
    let k = known c.in_ok-chart.chart.measures.now _ c.in_ok-chart.chart.few.few c.chart_counts-counts.ensures in omega arith

pub returns-then-streams-eq0 : goal.returns-then-streams-eq0
returns-then-streams-eq0 c =
    let m = c.in_ok-chart.chart in
    let k = known m.measures.now _ m.few.few c.chart_counts-counts.ensures in
    let none : streams (classes m.measures.now) ≡ 0 = sym k.sum ∙ sym c.stream_measures-streams.ensures ∙ c.if-streams-eq0.true in
    rw (← c.in_ok-chart.ensures.chart, le-leb _ 1048576 m.few.few, none)

pub overflow_add-all : goal.overflow_add-all
overflow_add-all c =
    let k = known c.in_ok-chart.chart.measures.now _ c.in_ok-chart.chart.few.few c.chart_counts-counts.ensures in
    omega (arith, c.stream_measures-streams.ensures)

pub returns : goal.returns
returns c =
    let m = c.in_ok-chart.chart in
    let k = known m.measures.now _ m.few.few c.chart_counts-counts.ensures in
    let some = lt-ltb 0 (streams (classes m.measures.now)) (omega arith) in
    rw (← c.in_ok-chart.ensures.chart, le-leb _ 1048576 m.few.few, some, c.ten_thousandths.ensures, c.stream_measures-streams.ensures, k.part)
