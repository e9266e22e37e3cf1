-- The laws of the counts line for boards hold.
-- Assumes nothing.
use Prim.Native.Nat.{ℕ, zero, suc, ◌≤◌}
use mathlib.Core.Path.{◌∙◌}
use mathlib.Core.List.{List, [], ◌∷◌, append_assoc}
use native.Mathlib.Omega.{arith}
use lib.Dec.{leb}
use lib.ListN.{length, get_or}
use borrow.Author.Tests.{leb-true}
use Rattle.number.proofs.Split.{split}
use Rattle.number.proofs.Questions.{text-accepted}
use Rattle.number.proofs.Each.{Each, none, ◌&◌}
use Rattle.rules.specs.Chart.{classes, counts, count_numbers}
use Rattle.counts_line.specs.Promises.{board_text}
use Rattle.counts_line.specs.Laws.{BoardLaws}
use Rattle.counts_line.proofs.Bound.{Few, chart-few, few-digits, column, board-long}

few-at : (ns : List ℕ) (i : ℕ) → Each Few ns → Few (get_or ns i 0)
few-at [] i none = omega arith
few-at (n ∷ ns) zero (h & hs) = h
few-at (n ∷ ns) (suc i) (h & hs) = few-at ns i hs

pub board-laws : BoardLaws
unfolding board_text
board-laws =
    record {
      accepted = λ m old new r p h.
          let w = text-accepted _ (board_text m) old new r p h in
          let few : length m ≤ 1048576 =
          split (leb (length m) 1048576) (λ e. leb-true (length m) 1048576 e) (λ e. absurd (omega (arith, rw e at w.0))) in
          let ns = count_numbers (counts (classes m)) in
          record {
            short = λ i k. few-digits (get_or ns i 0) (few-at ns i (chart-few m few));
            long = w.1 ∙ board-long m few;
            columns = λ i k. rw (w.2, append_assoc) (column ns _ i (chart-few m few) k);
          };
    }
