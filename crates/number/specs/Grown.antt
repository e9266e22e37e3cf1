-- What a function leaves that adds a text to a buffer.
-- Assumes nothing.
use Rattle.std.specs.Prelude.{ℕ, ◌+◌, ◌≡◌, List, ◌++◌, length, take}

-- the bytes xs behind the first k of the buffer, which stay; r is the next place, and of what stands there nothing is said
pub record Grown (old new : List ℕ) (k : ℕ) (xs : List ℕ) (r : ℕ) : Type 0 where
  pub next : r ≡ k + length xs
  pub front : take r new ≡ take k old ++ xs
  pub long : length new ≡ length old
