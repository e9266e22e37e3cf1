-- `chart_texts::single::write_text` meets its contract.
-- Assumes nothing.
use Rattle.std.proofs.Common.{sym, ◌∙◌}
use Rattle.chart_texts.proofs.Answers.{written-one}
use Rattle.chart_texts.proofs.single.write_text.Goals as goal

pub returns : goal.returns
returns c =
    let chart = c.in_ok-chart in
    written-one c.args.kind chart.ensures.chart chart.chart.few.few (sym c.text_fits.ensures ∙ c.if-not-text_fits.false) c.put_text.ensures
