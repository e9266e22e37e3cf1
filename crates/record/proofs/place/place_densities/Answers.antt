-- `record::place::place_densities` meets its contract.
-- Assumes nothing.
use Rattle.record.proofs.Fields.{cut-none}
use Rattle.record.proofs.Placing.{ended, step}
use Rattle.record.proofs.place.place_densities.Goals as goal

pub returns-in_default : goal.returns-in_default
returns-in_default c = let cut = rw c.in_default.is at c.in-Some.ensures.steps in ended c.loop-field.invariant (cut-none cut.0)

pub loop-field-preserved-then-field : goal.loop-field-preserved-then-field
loop-field-preserved-then-field c =
    step c.loop-field.invariant (rw c.in-Ok.is at c.in-Some.ensures.steps) c.if-field.true c.put_payload-count.ensures

pub returns : goal.returns
returns c = ended c.loop-field.invariant (rw c.in-None.ensures.steps.0)
