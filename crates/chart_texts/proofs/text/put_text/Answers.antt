-- `chart_texts::text::put_text` meets its contract.
-- Assumes nothing.
use Rattle.chart_texts.proofs.Texts.{is-text, is-total}
use Rattle.chart_texts.proofs.text.put_text.Goals as goal

pub total_text-requires : goal.total_text-requires
total_text-requires c =
    let e = is-total c.args.chart.measures.now c.args.kind c.stream_count.ensures c.is_total.ensures c.if-is_total.true in
    rw e c.requires

pub returns-then-is_total : goal.returns-then-is_total
returns-then-is_total c =
    let e = is-total c.args.chart.measures.now c.args.kind c.stream_count.ensures c.is_total.ensures c.if-is_total.true in
    rw e at c.total_text.ensures

pub text_of_measures-requires : goal.text_of_measures-requires
text_of_measures-requires c =
    let e = is-text c.args.chart.measures.now c.args.kind c.new.ensures c.form_of.ensures c.is_total.ensures c.if-is_total.false in
    rw e c.requires

pub returns : goal.returns
returns c =
    let e = is-text c.args.chart.measures.now c.args.kind c.new.ensures c.form_of.ensures c.is_total.ensures c.if-is_total.false in
    rw e at c.text_of_measures.ensures
