-- Document 01's case 12: what `sheet` prints for its record.
-- Assumes nothing.
use Rattle.std.specs.Prelude.{ℕ, ◌≡◌, List, [], ◌∷◌, ◌++◌}
use Prim.Native.String.{String}
use Rattle.rules.specs.Bytes.{bytes}
use Rattle.record.specs.Case12.{case12}
use Rattle.counts_line.specs.CountsLine.{line}
use Rattle.sheet_lines.specs.Sheet.{sheet_bytes}

-- quoted lines, as bytes
abbrev pub quoted_lines : List String → List ℕ
quoted_lines [] = []
quoted_lines (s ∷ ss) = line (bytes s) ++ quoted_lines ss

-- the nine lines, and nothing else
abbrev pub Case12 : Type 0
Case12 =
    sheet_bytes case12
    ≡ quoted_lines
    ("A" ∷ "3 2 0 0 3 4 0 0" ∷ "2 ~2~ (3) 1" ∷ "2 ~2~ - 1" ∷ "2 ~5~* 1" ∷ "2-2 (3) 1" ∷ "2-2-1" ∷ "5*-1" ∷ "5 Total" ∷ [])
