-- A share is at most 10,000.
-- Assumes nothing.
use Prim.Native.Nat.{ℕ, ◌+◌, ◌≤◌}
use mathlib.Core.List.{List}
use native.Mathlib.Nat.{div-le_of_le-mul}
use native.Mathlib.Omega.{arith}
use Rattle.rules.specs.Chart.{streams, counts}
use Rattle.rules.specs.Calls.{share}

-- also without a stream measure, where 0 divided by 0 is 0
pub share-most : (cs : List ℕ) → share cs ≤ 10000
unfolding share
share-most cs = div-le_of_le-mul (streams cs + (counts cs).sn_breaks) (omega arith)
