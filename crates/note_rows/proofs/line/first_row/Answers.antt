-- `note_rows::line::first_row` meets its contract.
-- Assumes nothing.
use Rattle.note_rows.proofs.First.{too_short, not-closed, other_bytes, a-row}
use Rattle.note_rows.proofs.line.first_row.Goals as goal

pub returns-in_default : goal.returns-in_default
returns-in_default c = too_short _ c.in_default.len_below

pub returns-then-end-ne10 : goal.returns-then-end-ne10
returns-then-end-ne10 c = not-closed c.args.text.now c.if-end-ne10.true

pub returns-in_err-note : goal.returns-in_err-note
returns-in_err-note c =
    rw c.from_residual.ensures (other_bytes _ c.in-len5-up.len_at_least c.if-end-ne10.false c.in_err-note.ensures)

pub returns : goal.returns
returns c = a-row _ c.in-len5-up.len_at_least c.if-end-ne10.false c.in_ok-note.ensures
