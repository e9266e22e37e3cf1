-- `Fields::next` meets its contract.
-- Assumes nothing.
use borrow.Author.Tests.{eqb-true}
use mathlib.Core.Path.{sym}
use Rattle.record.proofs.Fields.{fields-none}
use Rattle.record.proofs.field.FieldsIterator.next.Goals as goal

pub returns-then-is_empty-clause-steps : goal.returns-then-is_empty-clause-steps
returns-then-is_empty-clause-steps c = fields-none _ (eqb-true _ 0 (sym c.if-is_empty.ensures))
