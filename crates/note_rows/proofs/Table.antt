-- The rules on some texts: one that is accepted, and each refusal.
-- Assumes nothing.
use Prim.Native.Nat.{ℕ, zero, suc}
use mathlib.Core.Path.{◌≡◌, refl}
use mathlib.Core.List.{List, [], ◌∷◌, ◌++◌, map}
use Rattle.note_rows.specs.NoteRows.{is_row, note, row_densities, text_no, note_rows_no}

-- the row "0M03", the row "1002", "," and ";", each with its 0A
abbrev quiet : List ℕ
quiet = 48 ∷ 77 ∷ 48 ∷ 51 ∷ 10 ∷ []

abbrev notes : List ℕ
notes = 49 ∷ 48 ∷ 48 ∷ 50 ∷ 10 ∷ []

abbrev comma : List ℕ
comma = 44 ∷ 10 ∷ []

abbrev semicolon : List ℕ
semicolon = 59 ∷ 10 ∷ []

-- so many rows
abbrev rows : ℕ → List ℕ
rows zero = []
rows (suc n) = notes ++ rows n

-- three measures, of 2, 0 and 192 rows
abbrev three : List ℕ
three = notes ++ quiet ++ comma ++ comma ++ rows 192 ++ semicolon

pub three-measures : row_densities three ≡ 1 ∷ 0 ∷ 192 ∷ []
unfolding row_densities note
three-measures = refl

pub three-accepted : note_rows_no three (7 ∷ 7 ∷ 7 ∷ []) ≡ 0
unfolding row_densities note is_row text_no note_rows_no
three-accepted = refl

-- texts that are refused
abbrev bad : List (List ℕ)
bad =
    [] ∷  -- the empty text
    (59 ∷ []) ∷  -- ";" lacks its 0A
    (59 ∷ 13 ∷ 10 ∷ []) ∷  -- 0D before it
    (quiet ++ 10 ∷ semicolon) ∷  -- an empty line
    (48 ∷ quiet ++ semicolon) ∷  -- five bytes
    (rows 193 ++ semicolon) ∷  -- a 193rd row
    (rows 192 ++ 48 ∷ []) ∷  -- a 193rd line that is no row
    (rows 192 ++ comma ++ rows 1) ∷  -- no ";"
    (semicolon ++ 0 ∷ []) ∷  -- a byte behind it
    semicolon ∷  -- no place for a density
    []

-- their numbers, where no place is lent
pub refusals : map (λ text. note_rows_no text []) bad ≡ 16 ∷ 14 ∷ 14 ∷ 14 ∷ 14 ∷ 15 ∷ 14 ∷ 16 ∷ 16 ∷ 12 ∷ []
unfolding row_densities note is_row text_no note_rows_no
refusals = refl
