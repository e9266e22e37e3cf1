-- `record::questions::check_fields` meets its contract.
-- Assumes nothing.
use Rattle.record.proofs.Checking.{Checking}
use Rattle.record.proofs.questions.check_fields.Given as goal

abbrev pub invariant-loop-field : goal.invariant-loop-field
invariant-loop-field l = Checking l.bytes l.field-iterator.0.now l.first l.measures l.name_length
