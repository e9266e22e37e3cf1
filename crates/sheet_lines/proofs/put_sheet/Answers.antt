-- `sheet_lines::put_sheet` meets its contract.
-- Assumes nothing.
use Rattle.std.proofs.Common.{arith}
use Rattle.std.proofs.lemmas.Result.{err_from_is_err_and}
use Rattle.number.specs.declared.refusal.Refusal.TheVariants.{InputTooLong}
use Rattle.sheet_lines.proofs.Charted.{refused}
use Rattle.sheet_lines.proofs.Reading.{too-long, by-record, name-end, name-room, sheet-put}
use Rattle.sheet_lines.proofs.put_sheet.Goals as goal

pub returns-then-input-gt-MOST_INPUT : goal.returns-then-input-gt-MOST_INPUT
returns-then-input-gt-MOST_INPUT c = refused InputTooLong _ _ (too-long c.args.input.now (omega arith))

pub returns-in_err-read : goal.returns-in_err-read
returns-in_err-read c =
    let e = c.in_err-read in
    let p = err_from_is_err_and c.from_residual.result c.from_residual.ensures.1 in
    rw (p.1, p.2) (refused e.field-0.0 _ _ (by-record e.field-0.0 (omega arith) e.ensures))

pub overflow_add-end : goal.overflow_add-end
overflow_add-end c = omega (arith, name-end c.in_ok-read.ensures)

pub slice_bounds-name-end : goal.slice_bounds-name-end
slice_bounds-name-end c = omega (arith, name-end c.in_ok-read.ensures)

pub put_chart-requires : goal.put_chart-requires
put_chart-requires c = name-room c.in_ok-read.ensures c.requires

pub returns : goal.returns
returns c = sheet-put c.in_ok-read.ensures (omega arith) c.put_chart.ensures
