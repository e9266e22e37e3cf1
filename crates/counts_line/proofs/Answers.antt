-- How the promise of board_counts follows: for a slice that is too short, and for a line that is written. Nothing here speaks of code.
-- Assumes nothing.
use Prim.Native.Nat.{ℕ, ◌≤◌, ◌<◌}
use mathlib.Core.Path.{◌≡◌, refl}
use mathlib.Core.List.{List}
use native.Mathlib.Omega.{arith}
use lib.ListN.{length}
use borrow.Author.Tests.{le-leb, lt-leb}
use Rattle.number.specs.Place.{Room, Wrote}
use Rattle.number.proofs.Place.{one-text}
use Rattle.rules.specs.Chart.{classes, counts, count_numbers}
use Rattle.rules.specs.declared.StreamCounts.{StreamCounts}
use Rattle.counts_line.specs.CountsLine.{line, parted_by_spaces}
use Rattle.counts_line.specs.Promises.{board_text, BoardCounts}
use Rattle.counts_line.proofs.Bound.{board-long}

module _ (m old : List ℕ) (few : length m ≤ 1048576) where
  pub board-4 : length old < 64 → BoardCounts m old old (record { refused = 4; length = 0 })
  board-4 h =
      rw (le-leb (length m) 1048576 few, lt-leb (length (board_text m)) (length old) (omega (arith, board-long m few)))
      (record { answer = refl; bytes = refl })

  module _ (room : 64 ≤ length old) (c : StreamCounts) (e : c ≡ counts (classes m)) where
    pub board-room : Room old 0 (line (parted_by_spaces 7 (count_numbers c)))
    unfolding board_text
    board-room = record { fits = rw e (omega (arith, board-long m few)) }

    pub board-0 : {new : List ℕ} {r : ℕ} → Wrote old new 0 (line (parted_by_spaces 7 (count_numbers c))) r
        → BoardCounts m old new (record { refused = 0; length = r })
    unfolding board_text
    board-0 w =
        let fits : length (board_text m) ≤ length old = omega (arith, board-long m few) in
        rw (le-leb (length m) 1048576 few, le-leb (length (board_text m)) (length old) fits) (one-text (board_text m) old _ _ fits (rw e at w))
