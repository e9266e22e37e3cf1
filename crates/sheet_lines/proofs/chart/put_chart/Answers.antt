-- `sheet_lines::chart::put_chart` meets its contract.
-- Assumes nothing.
use Rattle.std.proofs.lemmas.Result.{err_from_is_err_and}
use Rattle.sheet_lines.proofs.Charted.{refused, by-pass, by-total, lines-room, printed}
use Rattle.sheet_lines.proofs.chart.put_chart.Goals as goal

pub returns-in_err-outputs : goal.returns-in_err-outputs
returns-in_err-outputs c =
    let e = c.in_err-outputs in
    let p = err_from_is_err_and c.from_residual.result c.from_residual.ensures.1 in
    rw (p.1, p.2) (refused e.field-0.0 _ _ (by-pass _ e.field-0.0 e.ensures))

pub returns-in_err-length : goal.returns-in_err-length
returns-in_err-length c =
    let e = c.in_err-length in
    let p = err_from_is_err_and c.from_residual-in_err-length.result c.from_residual-in_err-length.ensures.1 in
    rw (p.1, p.2) (refused e.field-0.0 _ _ (by-total _ c.in_ok-outputs.ensures e.field-0.0 e.ensures))

pub put_lines-requires : goal.put_lines-requires
put_lines-requires c = lines-room c.in_ok-outputs.ensures c.in_ok-length.ensures _ c.requires

pub returns : goal.returns
returns c = printed c.in_ok-outputs.ensures c.in_ok-length.ensures _ c.requires c.put_lines.ensures
