-- Demand 3, first half: two calls on charts of equal classes, with equal lent slices, give equal answers and leave equal bytes.
-- Assumes nothing.
use Prim.Native.Nat.{ℕ}
use mathlib.Core.Path.{◌≡◌, sym, ap, ◌∙◌}
use mathlib.Core.List.{List}
use Rattle.number.specs.declared.Written.{Written}
use Rattle.rules.specs.Chart.{classes, counts}
use Rattle.rules.proofs.Demand.{same_length}
use Rattle.counts_line.specs.CountsLine.{line, board_line}
use Rattle.counts_line.specs.Promises.{board_text, BoardCounts}

module _ (a b : List ℕ) (e : classes a ≡ classes b) where
  same-board : board_text a ≡ board_text b
  unfolding board_text
  same-board = ap (λ (cs : List ℕ). line (board_line (counts cs))) e

  pub same-board-counts : {old new new' : List ℕ} {r s : Written} → BoardCounts a old new r → BoardCounts b old new' s → (r ≡ s) × (new ≡ new')
  same-board-counts {old} {new} {new'} {r} p q =
      let t : BoardCounts b old new r = rw (same_length a b e, same-board) at p in
      (t.answer ∙ sym q.answer, t.bytes ∙ sym q.bytes)
