-- `sheet_lines::put_answer` meets its contract.
-- Assumes nothing.
use Rattle.sheet_lines.proofs.Reading.{accepted-printed, refused-printed}
use Rattle.sheet_lines.proofs.put_answer.Goals as goal

pub returns-in-Ok : goal.returns-in-Ok
returns-in-Ok c = accepted-printed c.args.input.now c.in-Ok.ensures

pub returns-in-Err : goal.returns-in-Err
returns-in-Err c = refused-printed c.args.input.now _ c.in-Err.ensures c.put_refusal.ensures
