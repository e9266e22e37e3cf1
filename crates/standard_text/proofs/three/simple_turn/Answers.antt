-- `standard_text::three::simple_turn` meets its contract.
-- Assumes nothing.
use mathlib.Core.Bool.{true}
use native.Mathlib.Omega.{arith}
use Rattle.number.proofs.Grown.{grown-none}
use Rattle.standard_text.proofs.StandardThree.{turned-over, turned_apart, done-short}
use Rattle.standard_text.proofs.three.simple_turn.Goals as goal

pub returns-then-gap-eq1 : goal.returns-then-gap-eq1
returns-then-gap-eq1 c =
    record {
      done = _;
      text = turned-over true _ _ _ _ _ (omega (arith, c.if-gap-eq1.true));
      grown = grown-none;
      small = omega arith;
      short = λ _. omega arith;
    }

pub returns : goal.returns
returns c =
    let g = c.add_piece.ensures in
    record {
      done = _;
      text = turned_apart true _ _ _ _ _ (omega (arith, c.if-gap-eq1.false, c.requires));
      grown = g;
      small = omega arith;
      short = λ h. omega (arith, g.next, done-short true c.args.last.length c.args.last.starred c.args.gap (omega arith) (omega arith));
    }
