-- What `run_end` asks.
-- Assumes nothing.
use Rattle.std.specs.Prelude.{ℕ, ◌≤◌, List, length}

-- a place of a chart of the domain, its end included
pub record MeasurePlace (m : List ℕ) (at : ℕ) : Type 0 where
  pub few : length m ≤ 1048576
  pub within : at ≤ length m
