-- Charts of equal classes have equal answers.
-- Assumes nothing.
use Prim.Native.Nat.{ℕ}
use mathlib.Core.Path.{◌≡◌}
use mathlib.Core.List.{List}
use Rattle.rules.specs.Chart.{classes}
use Rattle.rules.proofs.Demand.{same_length}
use Rattle.counts.specs.Promises.{counts_answer, share_answer}

module _ (a b : List ℕ) (e : classes a ≡ classes b) where
  pub same-counts : counts_answer a ≡ counts_answer b
  same-counts = rw (same_length a b e, e)

  pub same-share : share_answer a ≡ share_answer b
  same-share = rw (same_length a b e, e)
