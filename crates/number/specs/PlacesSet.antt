-- A stretch of places of a table that a function sets.
-- Assumes nothing.
use Rattle.std.specs.Prelude.{ℕ, ◌+◌, ◌≤◌, ◌<◌, ◌≡◌, List, length, get_or}

-- n places from `from` on hold what `Holds` says of each, counted from 0; all others are as they were
pub record PlacesSet (Holds : ℕ → ℕ → Type 0) (from n : ℕ) (old new : List ℕ) : Type 0 where
  pub inside : (i : ℕ) → i < n → Holds i (get_or new (from + i) 0)
  pub before : (i : ℕ) → i < from → get_or new i 0 ≡ get_or old i 0
  pub behind : (i : ℕ) → from + n ≤ i → get_or new i 0 ≡ get_or old i 0
  pub long : length new ≡ length old
