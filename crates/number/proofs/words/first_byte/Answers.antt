-- `number::words::first_byte` meets its contract.
-- Assumes nothing.
use borrow.Author.Tests.{eq-eqb, ne_eqb}
use Rattle.number.proofs.words.first_byte.Goals as goal

pub returns-then-tens-eq0 : goal.returns-then-tens-eq0
returns-then-tens-eq0 c = rw (eq-eqb _ 0 c.if-tens-eq0.true)

pub returns : goal.returns
returns c = rw (ne_eqb _ 0 c.if-tens-eq0.false)
