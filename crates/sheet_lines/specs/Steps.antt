-- What the functions that put the lines ask and promise.
-- Assumes nothing.
use Rattle.std.specs.Prelude.{ℕ, ◌≤◌, ◌≡◌, List, [], ◌∷◌, ◌++◌, length, take, drop, sum}
use Rattle.number.specs.Digits.{digits}
use Rattle.number.specs.Questions.{filled}
use Rattle.number.specs.Place.{Room}
use Rattle.rules.specs.Bytes.{bytes}
use Rattle.rules.specs.Chart.{classes, counts}
use Rattle.rules.specs.declared.StreamCounts.{StreamCounts}
use Rattle.counts_line.specs.CountsLine.{line, counts_line}
use Rattle.record.specs.Record.{fields_of, name_of}
use Rattle.stream_outputs.specs.Promises.{pass_no}
use Rattle.sheet_lines.specs.Sheet.{places, text_bytes, total_bytes, first_refusal, chart_of, total_no, sheet_kinds, text_lines}

-- the bytes xs at the slice's start, later places as they were; r is their number
pub record AtStart (old new xs : List ℕ) (r : ℕ) : Type 0 where
  pub number : r ≡ length xs
  pub bytes : new ≡ filled old xs

-- room for the most that `sheet` prints
pub record Roomy (out : List ℕ) : Type 0 where
  pub most : 66048 ≤ length out

-- the same, and a name of at most 64 bytes
pub record NameRoom (name out : List ℕ) : Type 0 where
  pub short : length name ≤ 64
  pub most : 66048 ≤ length out

-- the line of a refusal
abbrev pub refusal_line : ℕ → List ℕ
refusal_line n = line (bytes "refused " ++ digits n)

-- texts of the lengths ns that stand end to end, each as a line
abbrev pub cut_lines : List ℕ → List ℕ → List ℕ
cut_lines texts [] = []
cut_lines texts (n ∷ ns) = line (take n texts) ++ cut_lines (drop n texts) ns

-- texts of these lengths, and room for their lines
pub record Cuts (out : List ℕ) (at : ℕ) (texts ns : List ℕ) : Type 0 where
  pub within : sum ns ≤ length texts
  pub room : Room out at (cut_lines texts ns)

-- all lines, from name, counts, six texts end to end and Total
abbrev pub all_lines : List ℕ → StreamCounts → List ℕ → List ℕ → List ℕ → List ℕ
all_lines name c texts ns total = line name ++ (line (counts_line c) ++ (cut_lines texts ns ++ line total))

-- texts of these lengths, and room for all lines
pub record LinesRoom (out name : List ℕ) (c : StreamCounts) (texts ns total : List ℕ) : Type 0 where
  pub within : sum ns ≤ length texts
  pub room : Room out 0 (all_lines name c texts ns total)

-- the number of the first no of the pass and of Total
unfoldable pub texts_no : List ℕ → ℕ
texts_no m = first_refusal (pass_no m places places text_bytes ∷ total_no m total_bytes ∷ [])

-- the lines of a record that was read: its name, and its chart m
unfoldable pub chart_lines : List ℕ → List ℕ → List ℕ
chart_lines name m = line name ++ (line (counts_line (counts (classes m))) ++ text_lines sheet_kinds m)

-- the lines of an accepted record
abbrev pub sheet_lines : List ℕ → List ℕ
sheet_lines input = chart_lines (name_of (fields_of input)) (chart_of input)
