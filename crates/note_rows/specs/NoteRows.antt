-- Note rows (request A.1): the lines of a text, its measures, and the questions put to it.
-- Assumes nothing.
use Rattle.std.specs.Prelude.{ℕ, suc, ◌+◌, Bool, true, false, cond, ◌&&◌, ◌||◌, List, [], ◌∷◌, map, ltb, eqb, length}
use Rattle.number.specs.Questions.{accepted}
use Rattle.rules.specs.Chart.{densities_no}

-- the lines of a text: nothing left, bytes left that lack their 0A, or a line (without its 0A) and what follows it
pub data Lines : Type 0 where
  end : Lines
  cut : Lines
  line : List ℕ → Lines → Lines

-- a byte before some lines belongs to the first of them
abbrev pub before : ℕ → Lines → Lines
before b end = cut
before b cut = cut
before b (line l ls) = line (b ∷ l) ls

-- A line ends at 0A
abbrev pub lines_of : List ℕ → Lines
lines_of [] = end
lines_of (b ∷ text) = cond (eqb b 10) (line [] (lines_of text)) (before b (lines_of text))

-- is b one of the bytes xs?
abbrev pub one_of : List ℕ → ℕ → Bool
one_of [] b = false
one_of (x ∷ xs) b = eqb b x || one_of xs b

-- are all bytes of a line among the bytes xs?
abbrev pub all_of : List ℕ → List ℕ → Bool
all_of xs [] = true
all_of xs (b ∷ l) = one_of xs b && all_of xs l

-- does a line hold one of the bytes xs?
abbrev pub some_of : List ℕ → List ℕ → Bool
some_of xs [] = false
some_of xs (b ∷ l) = one_of xs b || some_of xs l

-- "0" "1" "2" "3" "4" "M"
abbrev pub row_bytes : List ℕ
row_bytes = 48 ∷ 49 ∷ 50 ∷ 51 ∷ 52 ∷ 77 ∷ []

-- "1" "2" "4"
abbrev pub note_bytes : List ℕ
note_bytes = 49 ∷ 50 ∷ 52 ∷ []

-- A row is four bytes of "0", "1", "2", "3", "4" or "M"
unfoldable pub is_row : List ℕ → Bool
is_row l = eqb (length l) 4 && all_of row_bytes l

-- it adds one to its measure if it holds "1", "2" or "4"
unfoldable pub note : List ℕ → ℕ
note row = cond (some_of note_bytes row) 1 0

-- the line of the byte b alone
abbrev pub is_byte : ℕ → List ℕ → Bool
is_byte b [] = false
is_byte b (x ∷ []) = eqb x b
is_byte b (x ∷ y ∷ l) = false

-- the line ","
abbrev pub is_comma : List ℕ → Bool
is_comma = is_byte 44

-- the line ";"
abbrev pub is_semicolon : List ℕ → Bool
is_semicolon = is_byte 59

-- a row before some measures belongs to the first of them
abbrev pub add_row : List ℕ → List (List (List ℕ)) → List (List (List ℕ))
add_row row [] = (row ∷ []) ∷ []
add_row row (rows ∷ ms) = (row ∷ rows) ∷ ms

-- the measures, each the list of its rows: the line "," ends a measure and ";" the last one
abbrev pub measures : Lines → List (List (List ℕ))
measures end = [] ∷ []
measures cut = [] ∷ []
measures (line l ls) = cond (is_semicolon l) ([] ∷ []) (cond (is_comma l) ([] ∷ measures ls) (add_row l (measures ls)))

-- the density of a measure
abbrev pub density : List (List ℕ) → ℕ
density [] = 0
density (row ∷ rows) = note row + density rows

-- the densities of a text
unfoldable pub row_densities : List ℕ → List ℕ
row_densities text = map density (measures (lines_of text))

-- nothing behind
abbrev pub is_end : Lines → Bool
is_end end = true
is_end cut = false
is_end (line l ls) = false

-- the first faulty line, behind so many rows of its measure: 14 for a line that is none of these three or lacks its 0A, 15 for a 193rd row,
-- 16 for a missing ";" or anything after its line
abbrev pub lines_no : ℕ → Lines → ℕ
lines_no rows end = 16
lines_no rows cut = 14
lines_no rows (line l ls) =
    cond (is_row l) (cond (ltb rows 192) (lines_no (suc rows) ls) 15)
    (cond (is_comma l) (lines_no 0 ls)
    (cond (is_semicolon l) (cond (is_end ls) 0 16) 14))

-- the first no to a text's lines
unfoldable pub text_no : List ℕ → ℕ
text_no text = lines_no 0 (lines_of text)

-- the first no to a text, for which the density slice `old` is lent: of its lines, then, once they have passed, of its densities
unfoldable pub note_rows_no : List ℕ → List ℕ → ℕ
note_rows_no text old = accepted (text_no text) (densities_no (row_densities text) old) (text_no text)
