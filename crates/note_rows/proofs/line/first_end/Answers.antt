-- `note_rows::line::first_end` meets its contract.
-- Assumes nothing.
use Rattle.note_rows.proofs.First.{one_left}
use Rattle.note_rows.proofs.line.first_end.Goals as goal

pub returns-in_default : goal.returns-in_default
returns-in_default c = one_left c.args.text.now c.requires.0 c.in_default.len_below
