-- `number::push_u64` meets its contract.
-- Assumes nothing.
use Rattle.number.proofs.Push.{pushed-narrow}
use Rattle.number.proofs.push_u64.Goals as goal

pub returns-then-width-lt2 : goal.returns-then-width-lt2
returns-then-width-lt2 c = pushed-narrow _ _ _ _ _ c.if-width-lt2.true c.push_digits.ensures
