-- Document 01's case 12: its record.
-- Assumes nothing.
use Rattle.std.specs.Prelude.{ℕ, List, [], ◌∷◌}

-- 01 00 01 41 02 00 09 10 10 00 14 14 00 00 00 10
abbrev pub case12 : List ℕ
case12 = 1 ∷ 0 ∷ 1 ∷ 65 ∷ 2 ∷ 0 ∷ 9 ∷ 16 ∷ 16 ∷ 0 ∷ 20 ∷ 20 ∷ 0 ∷ 0 ∷ 0 ∷ 16 ∷ []
