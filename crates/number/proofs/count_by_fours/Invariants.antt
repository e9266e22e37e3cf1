-- `number::count_by_fours` meets its contract: the digits counted so far and those of `rest` are all of them.
-- Assumes nothing.
use Prim.Native.Nat.{◌+◌, ◌≤◌}
use mathlib.Core.Path.{◌≡◌}
use lib.ListN.{length}
use Rattle.number.specs.Digits.{digits}
use Rattle.number.proofs.count_by_fours.Given as goal

abbrev pub invariant-loop-rest : goal.invariant-loop-rest
invariant-loop-rest l = (l.k + length (digits l.rest) ≡ length (digits l.n)) × (length (digits l.n) ≤ 20)

abbrev pub decreases-loop-rest : goal.decreases-loop-rest
decreases-loop-rest l = l.rest
