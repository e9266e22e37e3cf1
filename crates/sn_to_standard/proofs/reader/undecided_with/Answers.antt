-- `sn_to_standard::reader::undecided_with` meets its contract.
-- Assumes nothing.
use mathlib.Core.Bool.{and-false}
use native.Mathlib.Omega.{arith}
use borrow.Author.Tests.{le-leb}
use Rattle.sn_to_standard.proofs.reader.undecided_with.Goals as goal

pub returns-then-undecided : goal.returns-then-undecided
returns-then-undecided c = rw c.if-undecided.true

pub returns-then-before-eq0 : goal.returns-then-before-eq0
returns-then-before-eq0 c = rw (c.if-undecided.false, c.if-before-eq0.true, and-false)

pub returns : goal.returns
returns c = rw (c.if-undecided.false, le-leb 1 c.args.class c.requires, le-leb 1 c.args.before (omega arith))
