-- What a reader can expect of note rows besides their densities.
-- Assumes nothing.
use Rattle.std.specs.Prelude.{ℕ, suc, ◌≤◌, ◌≡◌, ◌≢◌, Bool, true, false, cond, List, [], ◌++◌, length, get_or}
use Rattle.number.specs.Questions.{accepted}
use Rattle.note_rows.specs.NoteRows.{Lines, end, cut, line, lines_of, is_comma, is_semicolon, is_end, measures, row_densities, text_no}

-- how many lines are ","
abbrev pub commas : Lines → ℕ
commas end = 0
commas cut = 0
commas (line l ls) = cond (is_comma l) (suc (commas ls)) (commas ls)

-- the first line ";" is there, and nothing behind it
abbrev pub ends_in_last : Lines → Bool
ends_in_last end = false
ends_in_last cut = false
ends_in_last (line l ls) = cond (is_semicolon l) (is_end ls) (ends_in_last ls)

pub record NoteRowLaws : Type 0 where
  -- a text whose lines have passed has one measure more than it has lines ","
  pub counted : (text : List ℕ) → text_no text ≡ 0 → length (row_densities text) ≡ suc (commas (lines_of text))
  -- each of its densities is at most the number of the measure's rows, which is at most 192
  pub bounded : (text : List ℕ) → text_no text ≡ 0 → (i : ℕ)
      → let rows = get_or (measures (lines_of text)) i [] in
      (get_or (row_densities text) i 0 ≤ length rows) × (length rows ≤ 192)
  -- what follows the first line ";" decides nothing but 16: a fault up to that line stays as it is, and so do the densities
  pub behind : (text rest : List ℕ) → ends_in_last (lines_of text) ≡ true → rest ≢ []
      → (text_no (text ++ rest) ≡ accepted (text_no text) 16 (text_no text)) × (row_densities (text ++ rest) ≡ row_densities text)
