-- `record::questions::check_fields` meets its contract.
-- Assumes nothing.
use Rattle.record.proofs.Checking.{a-name, some-densities}
use Rattle.record.proofs.questions.check_fields.Goals as goal

pub loop-field-preserved-in-Name : goal.loop-field-preserved-in-Name
loop-field-preserved-in-Name c =
    let yes = c.in_ok-check_field.ensures in
    a-name c.loop-field.invariant (rw c.in_ok-field.was at c.in-Some.ensures.steps) yes.0 (rw c.in-Name.is at yes.1)

pub loop-field-preserved : goal.loop-field-preserved
loop-field-preserved c =
    let yes = c.in_ok-check_field.ensures in
    some-densities c.loop-field.invariant (rw c.in_ok-field.was at c.in-Some.ensures.steps) yes.0 (rw c.in-Densities.is at yes.1)
