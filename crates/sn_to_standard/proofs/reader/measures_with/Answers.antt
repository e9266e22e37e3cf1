-- `sn_to_standard::reader::measures_with` meets its contract.
-- Assumes nothing.
use mathlib.Core.Path.{refl}
use mathlib.Core.Bool.{and-false}
use native.Mathlib.Omega.{arith}
use borrow.Author.Tests.{eq-eqb, ne_eqb, le-leb}
use Rattle.sn_to_standard.proofs.reader.measures_with.Goals as goal

pub returns-then-before-class : goal.returns-then-before-class
returns-then-before-class c =
    let a = c.args in
    rw (c.if-before-class.true, le-leb 1 a.class c.requires.0, eq-eqb a.class a.class refl) (omega arith)

pub returns : goal.returns
returns c = rw (ne_eqb c.args.before c.args.class c.if-before-class.false, and-false) (omega arith)
