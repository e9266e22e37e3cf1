-- What the stepper gives.
-- Assumes nothing.
use Rattle.std.specs.Prelude.{ℕ, Bool, cond, List, map, drop}
use Rattle.rules.specs.Chart.{classes, runs, flat}
use Rattle.rules.specs.Calls.{segments_at}
use Rattle.rules.specs.Slices.{leading}
use Rattle.rules.specs.declared.StreamSegment.{StreamSegment}

-- the measures from `at` on, classes ignored: 1 a stream measure, 0 a break
abbrev pub flat_from : List ℕ → ℕ → List ℕ
flat_from m at = map flat (classes (drop at m))

-- how many stream measures, or breaks, stand from `at` on
abbrev pub stretch : Bool → List ℕ → ℕ → ℕ
stretch stream m at = leading (cond stream 1 0) (flat_from m at)

-- the segments from the place `at` on
unfoldable pub segments_from : List ℕ → ℕ → List StreamSegment
segments_from m at = segments_at at (runs (flat_from m at))
