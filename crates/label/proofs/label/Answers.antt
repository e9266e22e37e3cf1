-- `label::label` meets its contract.
-- Assumes nothing.
use Rattle.std.proofs.Common.{◌≡◌, sym, ◌∙◌, arith, Some}
use Rattle.label.proofs.Levels.{labelled}
use Rattle.label.proofs.label.Goals as goal

pub returns : goal.returns
returns c =
    let chart = c.in_ok-chart in
    let level = c.in_ok-level.level in
    let chosen : c.choose.result ≡ Some level = grind arith in
    labelled c.args.width level chart.ensures.chart chart.chart.few.few (sym chosen ∙ c.choose.ensures)
    (sym c.text_fits.ensures ∙ c.if-not-text_fits.false) c.put_text-length.ensures
