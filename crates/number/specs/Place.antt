-- What a function that writes bytes at a place of a longer text asks and leaves.
-- Assumes nothing.
use Rattle.std.specs.Prelude.{ℕ, ◌+◌, ◌≤◌, ◌≡◌, List, length}
use Rattle.std.proofs.lemmas.List.Edits.{sets}

-- room for the bytes xs at the place `at`
pub record Room (old : List ℕ) (at : ℕ) (xs : List ℕ) : Type 0 where
  pub fits : at + length xs ≤ length old

-- the bytes xs at `at`, all others as they were; r is the next place
pub record Wrote (old new : List ℕ) (at : ℕ) (xs : List ℕ) (r : ℕ) : Type 0 where
  pub next : r ≡ at + length xs
  pub bytes : new ≡ sets old at xs
