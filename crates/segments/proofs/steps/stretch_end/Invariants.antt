-- `segments::steps::stretch_end` meets its contract. The loop's invariant: the measures from `at` up to i are of the stretch.
-- Assumes nothing.
use Prim.Native.Nat.{◌+◌}
use mathlib.Core.Path.{◌≡◌}
use Rattle.segments.specs.Steps.{stretch}
use Rattle.segments.proofs.steps.stretch_end.Given as goal

abbrev pub invariant-loop-i : goal.invariant-loop-i
invariant-loop-i l = l.at + stretch l.stream l.m l.at ≡ l.i + stretch l.stream l.m l.i
