-- `note_rows::line::row_of` meets its contract.
-- Assumes nothing.
use mathlib.Core.Path.{◌≡◌}
use mathlib.Core.Bool.{true}
use mathlib.Core.List.{[], ◌∷◌}
use Rattle.note_rows.specs.NoteRows.{is_row}
use Rattle.note_rows.proofs.Bytes.{a-row, no_row, without-note, with-note}
use Rattle.note_rows.proofs.line.row_of.Goals as goal
use Rattle.note_rows.proofs.line.row_of.Goals.{Else-row_byte-ne4}

-- the four bytes are a row
row : (c : Else-row_byte-ne4) → let a = c.args in is_row (a.a ∷ a.b ∷ a.c ∷ a.d ∷ []) ≡ true
row c =
    a-row _ _ _ _ c.row_byte.ensures c.row_byte-2.ensures
    c.row_byte-3.ensures c.row_byte-4.ensures c.if-row_byte-ne4.false

pub returns-then-row_byte-ne4 : goal.returns-then-row_byte-ne4
returns-then-row_byte-ne4 c =
    no_row _ _ _ _ c.row_byte.ensures c.row_byte-2.ensures
    c.row_byte-3.ensures c.row_byte-4.ensures c.if-row_byte-ne4.true

pub returns-then-quiet_byte-eq4 : goal.returns-then-quiet_byte-eq4
returns-then-quiet_byte-eq4 c =
    without-note _ _ _ _ (row (goal.at.returns-then-quiet_byte-eq4 c).Else-row_byte-ne4) c.quiet_byte.ensures c.quiet_byte-2.ensures
    c.quiet_byte-3.ensures c.quiet_byte-4.ensures c.if-quiet_byte-eq4.true

pub returns : goal.returns
returns c =
    with-note _ _ _ _ (row (goal.at.returns c).Else-row_byte-ne4) c.quiet_byte.ensures c.quiet_byte-2.ensures
    c.quiet_byte-3.ensures c.quiet_byte-4.ensures c.if-quiet_byte-eq4.false
