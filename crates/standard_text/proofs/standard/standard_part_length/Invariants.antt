-- `standard_text::standard::standard_part_length` meets its contract.
-- Assumes nothing.
use Rattle.standard_text.proofs.StandardParts.{ahead, Counting}
use Rattle.standard_text.proofs.standard.standard_part_length.Given as goal

abbrev pub invariant-loop-i : goal.invariant-loop-i
invariant-loop-i l =
    Counting l.signs l.limit l.initial.«open».length l.initial.«open».starred l.fn.tokens.classes.now l.fn.tokens.lengths.now
    l.total (ahead l.fn.tokens.classes.now l.fn.tokens.lengths.now l.i) l.«open».length l.«open».starred
