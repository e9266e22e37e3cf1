-- `stream_outputs::compute_stream_outputs` meets its contract.
-- Assumes nothing.
use Rattle.stream_outputs.proofs.Pass.{fitting, passed, tokened}
use Rattle.stream_outputs.proofs.compute_stream_outputs.Goals as goal

pub put_texts-lengths-requires : goal.put_texts-lengths-requires
put_texts-lengths-requires c =
    let f = fitting c.args.m.now c.args.classes.now c.args.lengths.now c.args.out.now (rw c.in_ok-chart.ensures.chart at c.in_ok-ask_room.ensures) in
    tokened c.args.m.now c.scan-scanned.ensures.written f.few f.fits

pub returns : goal.returns
returns c =
    let s = c.scan-scanned.ensures in
    passed c.args.m.now c.args.classes.now c.args.lengths.now c.args.out.now (rw c.in_ok-chart.ensures.chart at c.in_ok-ask_room.ensures)
    s.counted s.written c.put_texts-lengths.ensures
