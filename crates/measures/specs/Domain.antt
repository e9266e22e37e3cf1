-- What a function on the measures of an accepted chart asks.
-- Assumes nothing.
use Rattle.std.specs.Prelude.{ℕ, ◌≤◌, List, length}

-- The domain: at most 1,048,576 measures
pub record Domain (m : List ℕ) : Type 0 where
  pub few : length m ≤ 1048576
