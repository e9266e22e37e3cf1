-- What the program `sheet` prints for the bytes that it is given.
-- Assumes nothing.
use Rattle.std.specs.Prelude.{ℕ, zero, suc, ◌≡◌, List, [], ◌∷◌, ◌++◌, leb, length, replicate}
use Rattle.number.specs.Digits.{digits}
use Rattle.number.specs.Questions.{Question, question, first_no, accepted, filled, room_for}
use Rattle.rules.specs.Bytes.{bytes}
use Rattle.rules.specs.Chart.{in_domain, classes, counts}
use Rattle.rules.specs.declared.Kind.{Kind}
use Rattle.rules.specs.declared.Kind.TheVariants.{Standard as standard}
use Rattle.rules.specs.Texts.{text, pass_kinds}
use Rattle.rules.specs.declared.StreamBreakdownLevel.TheVariants as Level
use Rattle.counts_line.specs.CountsLine.{line, counts_line}
use Rattle.record.specs.Record.{fields_of, densities, name_of, record_no}
use Rattle.stream_outputs.specs.Promises.{pass_no}
use Rattle.sheet_lines.specs.declared.Sheet.{Sheet}

-- Input at most 16,384 bytes? 13
abbrev pub input_fits : List ℕ → Question
input_fits input = question 13 (leb (length input) 16384)

-- the slices that the program lends: 16,384 densities and tokens, 65,536 bytes for the pass, 32 for Total
abbrev pub places : List ℕ
places = replicate 16384 0

abbrev pub text_bytes : List ℕ
text_bytes = replicate 65536 0

abbrev pub total_bytes : List ℕ
total_bytes = replicate 32 0

-- the first number that is not 0
abbrev pub first_refusal : List ℕ → ℕ
first_refusal [] = 0
first_refusal (zero ∷ ns) = first_refusal ns
first_refusal (suc n ∷ ns) = suc n

-- the chart of a record: the densities in its whole fields
abbrev pub chart_of : List ℕ → List ℕ
chart_of input = densities (fields_of input)

-- the questions of the call that writes Total
abbrev pub total_no : List ℕ → List ℕ → ℕ
total_no m old = first_no (in_domain m ∷ room_for (text (standard Level.Total) m) old ∷ [])

-- the number of the first no: of the program, of the record, of the pass, of Total
unfoldable pub sheet_no : List ℕ → ℕ
sheet_no input =
    let m = chart_of input in
    first_refusal
    (first_no (input_fits input ∷ [])
    ∷ record_no input places
    ∷ pass_no m places places text_bytes
    ∷ total_no m total_bytes
    ∷ [])

-- the seven texts in the order of their lines
abbrev pub sheet_kinds : List Kind
sheet_kinds = pass_kinds ++ (standard Level.Total ∷ [])

-- the texts of some kinds, each as a line
abbrev pub text_lines : List Kind → List ℕ → List ℕ
text_lines [] m = []
text_lines (k ∷ ks) m = line (text k m) ++ text_lines ks m

-- Lines: name; counts; the six texts; Total. A refusal prints only the line "refused N"
unfoldable pub sheet_bytes : List ℕ → List ℕ
sheet_bytes input =
    let m = chart_of input in
    accepted (sheet_no input)
    (line (name_of (fields_of input)) ++ (line (counts_line (counts (classes m))) ++ text_lines sheet_kinds m))
    (line (bytes "refused " ++ digits (sheet_no input)))

-- print_sheet: these bytes, and their number; the places behind them are 0
pub record Printed (input : List ℕ) (r : Sheet) : Type 0 where
  pub answer : r ≡ record { bytes = filled (replicate 66048 0) (sheet_bytes input); length = length (sheet_bytes input) }
