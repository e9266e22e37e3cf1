-- `scan::runs_into` meets its contract: the loop's invariant and its steps are `ScanInvariant`'s.
-- Assumes nothing.
use Prim.Native.Nat.{ℕ, ◌-◌}
use mathlib.Core.List.{List}
use lib.ListN.{length}
use Rattle.scan.specs.Scan.{ScanInvariant}
use Rattle.scan.proofs.runs_into.Given as goal

-- the invariant speaks of what the slices hold where the loop begins, and not where the function does: so it says that what is so there stays so
abbrev pub invariant-loop-i : goal.invariant-loop-i
invariant-loop-i l =
    (old new : List ℕ) → ScanInvariant l.m old new l.initial.cs l.initial.ns l.most l.initial.p.class l.initial.p.length l.initial.p.place l.initial.i
    → ScanInvariant l.m old new l.cs l.ns l.most l.p.class l.p.length l.p.place l.i

abbrev pub decreases-loop-i : goal.decreases-loop-i
decreases-loop-i l = length l.m - l.i
