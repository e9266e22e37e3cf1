-- `sn_to_standard::item::class_of` meets its contract.
-- Assumes nothing.
use borrow.Author.Tests.{eq-eqb, ne_eqb}
use Rattle.sn_to_standard.proofs.item.class_of.Goals as goal

pub returns-then-b-eq126 : goal.returns-then-b-eq126
returns-then-b-eq126 c = rw (eq-eqb _ 126 c.if-b-eq126.true)

pub returns-then-b-eq92 : goal.returns-then-b-eq92
returns-then-b-eq92 c = rw (ne_eqb _ 126 c.if-b-eq126.false, eq-eqb _ 92 c.if-b-eq92.true)

pub returns-then-b-eq61 : goal.returns-then-b-eq61
returns-then-b-eq61 c = rw (ne_eqb _ 126 c.if-b-eq126.false, ne_eqb _ 92 c.if-b-eq92.false, eq-eqb _ 61 c.if-b-eq61.true)

pub returns : goal.returns
returns c = rw (ne_eqb _ 126 c.if-b-eq126.false, ne_eqb _ 92 c.if-b-eq92.false, ne_eqb _ 61 c.if-b-eq61.false)
