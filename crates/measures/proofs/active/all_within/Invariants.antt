-- `measures::active::all_within` meets its contract: so far all measures are within the bounds, or `all` is false.
-- Assumes nothing.
use Rattle.std.proofs.Common.{◌≡◌, true}
use Rattle.measures.specs.Active.{Stretch}
use Rattle.measures.proofs.active.all_within.Given as goal

abbrev pub invariant-loop-d : goal.invariant-loop-d
invariant-loop-d l = l.all ≡ true → Stretch l.block 0 l.lo l.more l.d-index
