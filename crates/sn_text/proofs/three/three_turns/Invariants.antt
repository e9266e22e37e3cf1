-- `sn_text::three::three_turns` meets its contract: each text's steps are `SnThree`'s.
-- Assumes nothing.
use Prim.Native.Nat.{◌-◌}
use lib.ListN.{length}
use Rattle.text_buffer.specs.Runs.{run_token}
use Rattle.sn_text.proofs.SnThree.{Walking}
use Rattle.sn_text.proofs.three.three_turns.Given as goal

abbrev pub invariant-loop-i : goal.invariant-loop-i
invariant-loop-i l =
    let cs = l.tokens.classes.now in
    let ns = l.tokens.lengths.now in
    Walking 0 (run_token l.initial.a.run) cs ns l.initial.detailed l.detailed l.a l.i
    × Walking 1 (run_token l.initial.b.run) cs ns l.initial.partial l.partial l.b l.i
    × Walking 4 (run_token l.initial.c.run) cs ns l.initial.simplified l.simplified l.c l.i

abbrev pub decreases-loop-i : goal.decreases-loop-i
decreases-loop-i l = length l.tokens.classes.now - l.i
