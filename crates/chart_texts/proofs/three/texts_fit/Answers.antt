-- `chart_texts::three::texts_fit` meets its contract.
-- Assumes nothing.
use Rattle.std.proofs.Common.{rules, ◌^◌, arith}
use Rattle.std.proofs.lemmas.Iterator.{YieldsList-from_slice, YieldsList-from_map}
use Rattle.std.proofs.lemmas.Iterator.Consumers.{YieldsList-at, fits_by_from_yields_list, sum_by_from_yields_List}
use Rattle.chart_texts.proofs.EndToEnd.{due, due-bytes, three-short}
use Rattle.chart_texts.proofs.three.texts_fit.Goals as goal

pub returns-then-chart-room : goal.returns-then-chart-room
returns-then-chart-room c =
    let s = three-short c.args.chart.measures.now c.args.kinds (omega arith) in
    grind arith

pub sum-due-requires-clause-fits : goal.sum-due-requires-clause-fits
sum-due-requires-clause-fits c =
    let m = c.args.chart.measures.now in
    let ks = c.args.kinds in
    let s = three-short m ks (omega arith) in
    fits_by_from_yields_list (due m) ks c.map.result (2 ^ 64)
    (YieldsList-from_map _ (due m) (YieldsList-at c.map.ensures.source (YieldsList-from_slice ks cc)) c.map.ensures.closure (λ x r q k. search rules))
    (omega (arith, due-bytes m ks, c.args.chart.few))

pub returns : goal.returns
returns c =
    let m = c.args.chart.measures.now in
    let ks = c.args.kinds in
    let e = sum_by_from_yields_List (due m) ks c.map.result c.sum-due.result c.sum-due.ensures.ran
    (YieldsList-from_map _ (due m) (YieldsList-at c.map.ensures.source (YieldsList-from_slice ks cc)) c.map.ensures.closure (λ x r q k. search rules)) in
    rw (e, due-bytes)
