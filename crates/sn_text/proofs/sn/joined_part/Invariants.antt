-- `sn_text::sn::joined_part` meets its contract: the loop's steps are `SnParts`'s.
-- Assumes nothing.
use Prim.Native.Nat.{◌-◌}
use lib.ListN.{length}
use Rattle.text_buffer.specs.Runs.{run_token}
use Rattle.sn_text.proofs.SnParts.{Writing}
use Rattle.sn_text.proofs.sn.joined_part.Given as goal

abbrev pub invariant-loop-i : goal.invariant-loop-i
invariant-loop-i g l =
    Writing l.limit (run_token l.initial.last) l.tokens.classes.now l.tokens.lengths.now l.initial.buf l.initial.out l.initial.to l.buf l.out
    (run_token l.last) l.to l.i

abbrev pub decreases-loop-i : goal.decreases-loop-i
decreases-loop-i g l = length l.tokens.classes.now - l.i
