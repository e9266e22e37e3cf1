-- The promise of the note row reader.
-- Assumes nothing.
use Rattle.std.specs.Prelude.{ℕ, ◌≡◌, List, length, Result, Ok, Err}
use Rattle.number.specs.Questions.{accepted, filled}
use Rattle.number.specs.Refusal.{refusal_number}
use Rattle.number.specs.declared.refusal.Refusal.{Refusal}
use Rattle.note_rows.specs.NoteRows.{row_densities, note_rows_no}
use Rattle.note_rows.specs.declared.RowsAnswer.{RowsAnswer}

-- what read_note_rows answers in C: a refusal has only its number
abbrev pub rows_answer_of : Result ℕ Refusal → RowsAnswer
rows_answer_of (Ok n) = record { refused = 0; measures = n }
rows_answer_of (Err e) = record { refused = refusal_number e; measures = 0 }

-- read_note_rows: the first no, or the densities at the slice's start, with their number
pub record ReadNoteRows (text old new : List ℕ) (r : RowsAnswer) : Type 0 where
  pub answer : r ≡ record { refused = note_rows_no text old; measures = accepted (note_rows_no text old) (length (row_densities text)) 0 }
  pub placed : new ≡ accepted (note_rows_no text old) (filled old (row_densities text)) old
