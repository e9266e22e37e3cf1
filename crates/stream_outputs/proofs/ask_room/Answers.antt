-- `stream_outputs::ask_room` meets its contract.
-- Assumes nothing.
use Rattle.std.proofs.Common.{arith, ◌^◌}
use Rattle.std.proofs.lemmas.Iterator.{YieldsList-from_slice}
use Rattle.std.proofs.lemmas.Iterator.Consumers.{fits_from_yields_list, sum_from_yields_List}
use Rattle.counts.proofs.TokenSums.{tokens-few}
use Rattle.stream_outputs.proofs.Room.{roomy, due-tokens, due-bytes, no-2, no-4, no-0}
use Rattle.stream_outputs.proofs.ask_room.Goals as goal

pub returns-then-surely_fit : goal.returns-then-surely_fit
returns-then-surely_fit c =
    let a = c.args in
    let m = a.chart.measures.now in
    let y = c.surely_fit.ensures c.if-surely_fit.true in
    let p = c.min-places.ensures in
    no-0 m a.classes a.lengths a.room a.chart.few.few (omega (arith, tokens-few m)) (omega (arith, roomy m))

pub returns-then-due-places : goal.returns-then-due-places
returns-then-due-places c =
    let a = c.args in
    let m = a.chart.measures.now in
    no-2 m a.classes a.lengths a.room a.chart.few.few (omega (arith, due-tokens m _ c.new.ensures c.due_of_measures-due.ensures))

pub sum-bytes-requires-clause-fits : goal.sum-bytes-requires-clause-fits
sum-bytes-requires-clause-fits c =
    let m = c.args.chart.measures.now in
    fits_from_yields_list c.iter.result (2 ^ 64) (YieldsList-from_slice c.due_of_measures-due.result.lengths cc)
    (omega (arith, due-bytes m _ c.new.ensures c.due_of_measures-due.ensures, roomy m, c.args.chart.few))

pub returns-then-bytes-room : goal.returns-then-bytes-room
returns-then-bytes-room c =
    let a = c.args in
    let m = a.chart.measures.now in
    let s = sum_from_yields_List c.iter.result c.sum-bytes.result c.sum-bytes.ensures.ran (YieldsList-from_slice c.due_of_measures-due.result.lengths cc) in
    let t = due-tokens m _ c.new.ensures c.due_of_measures-due.ensures in
    let b = due-bytes m _ c.new.ensures c.due_of_measures-due.ensures in
    no-4 m a.classes a.lengths a.room a.chart.few.few (omega arith) (omega arith)

pub returns : goal.returns
returns c =
    let a = c.args in
    let m = a.chart.measures.now in
    let s = sum_from_yields_List c.iter.result c.sum-bytes.result c.sum-bytes.ensures.ran (YieldsList-from_slice c.due_of_measures-due.result.lengths cc) in
    let t = due-tokens m _ c.new.ensures c.due_of_measures-due.ensures in
    let b = due-bytes m _ c.new.ensures c.due_of_measures-due.ensures in
    no-0 m a.classes a.lengths a.room a.chart.few.few (omega arith) (omega arith)
