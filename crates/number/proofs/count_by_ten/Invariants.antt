-- `number::count_by_ten` meets its contract: the k-th digit from the last is the last of `rest`.
-- Assumes nothing.
use Prim.Native.Nat.{◌+◌, ◌≤◌}
use mathlib.Core.Path.{◌≡◌}
use lib.ListN.{length}
use Rattle.number.specs.Digits.{digits}
use Rattle.number.proofs.count_by_ten.Given as goal

abbrev pub invariant-loop-k : goal.invariant-loop-k
invariant-loop-k l = (l.k + length (digits l.rest) ≡ length (digits l.n) + 1) × (length (digits l.n) ≤ 20)
