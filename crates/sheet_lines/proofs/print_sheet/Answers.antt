-- `sheet_lines::print_sheet` meets its contract.
-- Assumes nothing.
use Rattle.sheet_lines.proofs.print_sheet.Goals as goal

pub returns : goal.returns
returns c = record { answer = rw (c.put_answer.ensures.number, c.put_answer.ensures.bytes) }
