-- The promise of the call that writes the counts line for boards: what comes back and what the lent slice holds then, in refusals too.
-- Assumes nothing.
use Rattle.std.specs.Prelude.{ℕ, List, [], ◌∷◌}
use Rattle.number.specs.Questions.{first_no, room_for, OneText}
use Rattle.number.specs.declared.Written.{Written}
use Rattle.rules.specs.Chart.{in_domain, classes, counts}
use Rattle.counts_line.specs.CountsLine.{line, board_line}

-- the counts line of a chart for boards, with its 0A
unfoldable pub board_text : List ℕ → List ℕ
board_text m = line (board_line (counts (classes m)))

-- board_counts: questions 1 and 4, then that text
abbrev pub BoardCounts : List ℕ → List ℕ → List ℕ → Written → Type 0
BoardCounts m old new r = OneText (first_no (in_domain m ∷ room_for (board_text m) old ∷ [])) (board_text m) old new r
