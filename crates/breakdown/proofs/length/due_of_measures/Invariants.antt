-- `breakdown::length::due_of_measures` meets its contract.
-- Assumes nothing.
use Prim.Native.Nat.{◌+◌, ◌*◌, ◌≤◌}
use mathlib.Core.Path.{◌≡◌}
use lib.ListN.{length}
use Rattle.rules.specs.Chart.{classes, runs}
use Rattle.breakdown.specs.Lengths.{each}
use Rattle.breakdown.proofs.Tallied.{Tallied}
use Rattle.breakdown.proofs.length.due_of_measures.Given as goal

abbrev pub invariant-loop-parts : goal.invariant-loop-parts
invariant-loop-parts l =
    let m = l.fn.part.measures.now in
    let rest = l.parts.rest.now in
    each (Tallied m rest) l.six
    × (l.tokens + length (runs (classes rest)) ≡ length (runs (classes m))) × (l.tokens + 256 * length rest ≤ 256 * length m)

abbrev pub decreases-loop-parts : goal.decreases-loop-parts
decreases-loop-parts l = length l.parts.rest.now
