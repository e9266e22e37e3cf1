-- `sn_text::sn::detailed_part` meets its contract: the loop's steps are `SnParts`'s.
-- Assumes nothing.
use lib.ListN.{length}
use Rattle.sn_text.proofs.SnParts.{Listing}
use Rattle.sn_text.proofs.sn.detailed_part.Given as goal

abbrev pub invariant-loop-class : goal.invariant-loop-class
invariant-loop-class l =
    Listing l.tokens.classes.now l.tokens.lengths.now l.initial.buf l.initial.out l.initial.to l.buf l.out l.to (length l.yielded)
