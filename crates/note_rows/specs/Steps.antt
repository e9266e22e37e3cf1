-- What the reader's workers ask and answer.
-- Assumes nothing.
use Rattle.std.specs.Prelude.{ℕ, ◌<◌, ◌≤◌, ◌≡◌, Bool, true, false, cond, List, [], ◌∷◌, length, Option, Some, None, Result, MatchOption, MatchResult}
use Rattle.std.proofs.lemmas.List.Edits.{sets}
use Rattle.number.specs.Refusal.{refusal_number}
use Rattle.number.specs.declared.refusal.Refusal.{Refusal}
use Rattle.note_rows.specs.NoteRows.{Lines, end, cut, line, lines_of, is_row, note, is_comma, is_semicolon, is_end, row_densities, text_no}
use Rattle.note_rows.specs.declared.line.Line.{Line}
use Rattle.note_rows.specs.declared.line.Line.TheVariants.{Row, Measure, Last}

-- a yes or no as a number: 1 or 0
pub record Told (yes : Bool) (r : ℕ) : Type 0 where
  pub is : r ≡ cond yes 1 0
  pub most : r ≤ 1

-- row_of: what a line adds to its measure, if it is a row
abbrev pub row_of : List ℕ → Option ℕ
row_of l = cond (is_row l) (Some (note l)) None

-- is the first of some lines a row?
abbrev pub begins_row : Lines → Bool
begins_row end = false
begins_row cut = false
begins_row (line l ls) = is_row l

-- a text begins with a row, which adds n to its measure, and `rest` stands after it
pub record FirstRow (text : List ℕ) (n : ℕ) (rest : List ℕ) : Type 0 where
  pub l : List ℕ
  pub lines : lines_of text ≡ line l (lines_of rest)
  pub is-row : is_row l ≡ true
  pub adds : note l ≡ n
  pub shorter : length rest < length text

-- a text begins with the line l, and `rest` stands after it
pub record FirstIs (text l rest : List ℕ) : Type 0 where
  pub lines : lines_of text ≡ line l (lines_of rest)
  pub shorter : length rest < length text

-- a text begins with a line that passes, and `rest` stands after it
abbrev pub FirstLine : List ℕ → Line → List ℕ → Type 0
FirstLine text (Row n) rest = FirstRow text n rest
FirstLine text Measure rest = FirstIs text (44 ∷ []) rest
FirstLine text Last rest = FirstIs text (59 ∷ []) rest × (rest ≡ [])

-- first_end: the number by which the first of some lines, which is no row, is refused; 0 where it passes
abbrev pub end_no : Lines → ℕ
end_no end = 16
end_no cut = 14
end_no (line l ls) = cond (is_comma l) 0 (cond (is_semicolon l) (cond (is_end ls) 0 16) 14)

-- the first line of a text is faulty, and is refused by e
pub record IsFault (text : List ℕ) (e : Refusal) : Type 0 where
  pub no-row : begins_row (lines_of text) ≡ false
  pub number : end_no (lines_of text) ≡ refusal_number e

-- next: the first line of a text, and the text that is left; nothing is left after a faulty line
abbrev pub NextLine : List ℕ → Option (Result Line Refusal) → List ℕ → Type 0
NextLine text r rest =
    MatchOption r ((text ≡ []) × (rest ≡ []))
    (λ line. MatchResult line (λ k. FirstLine text k rest) (λ e. IsFault text e × (rest ≡ [])))

-- read_measures: the first no of all lines, or the number of measures, with as many of their densities at the slice's start as it has places
abbrev pub MeasuresRead : List ℕ → List ℕ → List ℕ → Result ℕ Refusal → Type 0
MeasuresRead text old new r =
    MatchResult r
    (λ n. (text_no text ≡ 0) × (n ≡ length (row_densities text)) × (new ≡ sets old 0 (row_densities text)))
    (λ e. text_no text ≡ refusal_number e)
