-- `sn_text::sn::detailed_part_length` meets its contract: the loop's steps are `SnParts`'s.
-- Assumes nothing.
use lib.ListN.{length}
use Rattle.sn_text.proofs.SnParts.{Summing}
use Rattle.sn_text.proofs.sn.detailed_part_length.Given as goal

abbrev pub invariant-loop-class : goal.invariant-loop-class
invariant-loop-class l = Summing l.tokens.classes.now l.tokens.lengths.now l.initial.total l.total (length l.yielded)
