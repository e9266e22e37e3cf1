-- `standard_text::three::three_pieces` meets its contract.
-- Assumes nothing.
use Prim.Native.Nat.{◌-◌}
use mathlib.Core.Bool.{true, false}
use lib.ListN as List
use Rattle.standard_text.proofs.StandardThree.{Walking}
use Rattle.standard_text.proofs.three.three_pieces.Given as goal

abbrev pub invariant-loop-i : goal.invariant-loop-i
invariant-loop-i l =
    Walking false 0 l.first l.fn.tokens.classes.now l.fn.tokens.lengths.now l.initial.detailed l.detailed l.t.detailed l.i l.t.piece false
    × Walking true 0 l.first l.fn.tokens.classes.now l.fn.tokens.lengths.now l.initial.partial l.partial l.t.partial l.i l.t.piece false
    × Walking true 1 l.first l.fn.tokens.classes.now l.fn.tokens.lengths.now l.initial.simple l.simple l.t.simple l.i l.t.joined.length l.t.joined.starred

abbrev pub decreases-loop-i : goal.decreases-loop-i
decreases-loop-i l = List.length l.fn.tokens.classes.now - l.i
