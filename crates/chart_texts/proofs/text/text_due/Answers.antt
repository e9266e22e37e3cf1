-- `chart_texts::text::text_due` meets its contract.
-- Assumes nothing.
use Rattle.std.proofs.Common.{ℕ, length, ap, ◌∙◌}
use Rattle.chart_texts.proofs.Texts.{is-text, is-total}
use Rattle.chart_texts.proofs.text.text_due.Goals as goal

pub returns-then-is_total : goal.returns-then-is_total
returns-then-is_total c =
    c.total_length.ensures
    ∙ ap {B = ℕ} length (is-total c.args.chart.measures.now c.args.kind c.stream_count.ensures c.is_total.ensures c.if-is_total.true)

pub returns : goal.returns
returns c =
    c.length_of_measures.ensures
    ∙ ap {B = ℕ} length (is-text c.args.chart.measures.now c.args.kind c.new.ensures c.form_of.ensures c.is_total.ensures c.if-is_total.false)
