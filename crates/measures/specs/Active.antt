-- What the functions that look for the active part ask and promise.
-- Assumes nothing.
use Rattle.std.specs.Prelude.{◌≡◌, ℕ, ◌+◌, ◌^◌, ◌<◌, ◌≤◌, List, length, slice_index}
use Rattle.rules.specs.Chart.{classes, lead_in, to_last}

-- a place of the chart, its end included, and bounds that fit a u32
pub record SkipAsked (m : List ℕ) (from lo more : ℕ) : Type 0 where
  pub within : from ≤ length m
  pub fit : lo + more < 2 ^ 32

-- the measures from `from` up to r are densities of lo to lo + more
pub record Stretch (m : List ℕ) (from lo more r : ℕ) : Type 0 where
  pub onward : from ≤ r
  pub within : r ≤ length m
  pub each : (i : ℕ) → from ≤ i → i < r → (lo ≤ slice_index m i) × (slice_index m i ≤ lo + more)

-- r is the number of breaks that lead in
pub record LedIn (m : List ℕ) (r : ℕ) : Type 0 where
  pub number : r ≡ lead_in (classes m)
  pub within : r ≤ length m

-- r is the number of measures up to the last stream measure
pub record Ended (m : List ℕ) (r : ℕ) : Type 0 where
  pub number : r ≡ length (to_last (classes m))
  pub within : r ≤ length m
