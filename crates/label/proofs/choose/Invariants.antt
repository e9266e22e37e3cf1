-- `label::choose` meets its contract. The loop's invariant: the choice is among the levels that are left.
-- Assumes nothing.
use Rattle.std.proofs.Common.{◌≡◌, length}
use Rattle.rules.specs.Calls.{first_within, label_choice}
use Rattle.label.proofs.choose.Given as goal

abbrev pub invariant-loop-level : goal.invariant-loop-level
invariant-loop-level l = first_within l.width l.chart.measures.now l.rest ≡ label_choice l.width l.chart.measures.now

abbrev pub decreases-loop-level : goal.decreases-loop-level
decreases-loop-level l = length l.rest
