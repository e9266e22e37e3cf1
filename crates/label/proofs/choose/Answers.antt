-- `label::choose` meets its contract. The loop's invariant: the choice is among the levels that are left.
-- Assumes nothing.
use Rattle.std.proofs.Common.{refl}
use Rattle.rules.specs.Calls.{label_choice}
use Rattle.label.proofs.choose.Goals as goal

pub loop-level-init : goal.loop-level-init
unfolding label_choice
loop-level-init c = refl
