-- The promise of a function that measures a text.
-- Assumes nothing.
use Rattle.std.specs.Prelude.{ℕ, ◌≤◌, ◌≡◌, List, length}

-- r is the length of the text xs, which has at most `most` bytes
pub record Measured (xs : List ℕ) (most r : ℕ) : Type 0 where
  pub number : r ≡ length xs
  pub short : r ≤ most
