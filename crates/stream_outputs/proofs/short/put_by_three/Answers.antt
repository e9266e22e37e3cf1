-- `stream_outputs::short::put_by_three` meets its contract.
-- Assumes nothing.
use Rattle.std.proofs.Common.{arith}
use Rattle.stream_outputs.proofs.FewTokens.{standard-room, six-texts}
use Rattle.stream_outputs.proofs.short.put_by_three.Goals as goal

pub put_three-requires : goal.put_three-requires
put_three-requires c =
    let b = c.behind-rest.ensures in
    standard-room c.requires.tokened c.args.tokens.paired c.requires.some
    (rw (c.open_run-first.ensures, b.classes, b.lengths) at c.sn_three-sn.ensures) c.put_three-next.ensures
    (rw (b.classes, b.lengths) at c.standard_three-standard.ensures)

pub returns : goal.returns
returns c =
    let b = c.behind-rest.ensures in
    six-texts c.requires.tokened c.args.tokens.paired c.requires.some
    (rw (c.open_run-first.ensures, b.classes, b.lengths) at c.sn_three-sn.ensures) c.put_three-next.ensures
    (rw (b.classes, b.lengths) at c.standard_three-standard.ensures) c.put_three.ensures
