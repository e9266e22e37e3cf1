-- `scan::steps_into` meets its contract: the loop's invariant and its steps are `ScanInvariant`'s.
-- Assumes nothing.
use Rattle.std.proofs.Common.{◌+◌, ◌≤◌}
use Rattle.scan.specs.Scan.{Onward}
use Rattle.scan.proofs.steps_into.Given as goal

abbrev pub invariant-loop-d : goal.invariant-loop-d
invariant-loop-d l =
    let q = l.initial.p in
    Onward l.m l.from l.d-index l.initial.cs l.cs l.initial.ns l.ns q.class q.length q.place l.p.class l.p.length l.p.place
    × (l.d-index ≤ l.count)
    × (l.p.place ≤ q.place + l.d-index)
