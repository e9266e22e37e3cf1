-- The counts line, in both its forms.
-- Assumes nothing.
use Rattle.std.specs.Prelude.{ℕ, List, [], ◌∷◌, ◌++◌}
use Rattle.number.specs.Digits.{padded}
use Rattle.rules.specs.Bytes.{bytes}
use Rattle.rules.specs.Chart.{count_numbers}
use Rattle.rules.specs.declared.StreamCounts.{StreamCounts}

-- a line, ended by 0A
abbrev pub line : List ℕ → List ℕ
line xs = xs ++ (10 ∷ [])

-- numbers at a least width, parted by one space
abbrev pub parted_by_spaces : ℕ → List ℕ → List ℕ
parted_by_spaces width [] = []
parted_by_spaces width (n ∷ []) = padded width n
parted_by_spaces width (n ∷ k ∷ ns) = padded width n ++ (bytes " " ++ parted_by_spaces width (k ∷ ns))

-- run16 run20 run24 run32 total_breaks sn_breaks lead tail
abbrev pub counts_line : StreamCounts → List ℕ
counts_line c = parted_by_spaces 0 (count_numbers c)

-- Its second form, for boards (document 02, A.7): width 7 for each of its eight numbers
abbrev pub board_line : StreamCounts → List ℕ
board_line c = parted_by_spaces 7 (count_numbers c)
