-- `sn_text::sn::joined_part_length` meets its contract: the loop's steps are `SnParts`'s.
-- Assumes nothing.
use Prim.Native.Nat.{◌-◌}
use lib.ListN.{length}
use Rattle.text_buffer.specs.Runs.{run_token}
use Rattle.sn_text.proofs.SnParts.{Counting}
use Rattle.sn_text.proofs.sn.joined_part_length.Given as goal

abbrev pub invariant-loop-i : goal.invariant-loop-i
invariant-loop-i l = Counting l.limit (run_token l.initial.last) l.tokens.classes.now l.tokens.lengths.now (run_token l.last) l.total l.i

abbrev pub decreases-loop-i : goal.decreases-loop-i
decreases-loop-i l = length l.tokens.classes.now - l.i
