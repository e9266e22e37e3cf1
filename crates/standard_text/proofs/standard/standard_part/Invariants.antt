-- `standard_text::standard::standard_part` meets its contract.
-- Assumes nothing.
use Rattle.standard_text.proofs.StandardParts.{ahead, Parted}
use Rattle.standard_text.proofs.standard.standard_part.Given as goal

abbrev pub invariant-loop-i : goal.invariant-loop-i
invariant-loop-i l =
    Parted l.signs l.limit l.initial.«open».length l.initial.«open».starred l.fn.tokens.classes.now l.fn.tokens.lengths.now
    l.initial.buf l.initial.out l.initial.to l.buf l.out l.to (ahead l.fn.tokens.classes.now l.fn.tokens.lengths.now l.i) l.«open».length l.«open».starred
