-- `lent_slices::call::total` meets its contract: no length counts more than 4,096.
-- Assumes nothing.
use Rattle.std.proofs.Common.{◌≤◌, ◌*◌}
use Rattle.lent_slices.proofs.call.total.Given as goal

abbrev pub invariant-loop-length : goal.invariant-loop-length
invariant-loop-length l = l.due ≤ 4096 * l.length-index
