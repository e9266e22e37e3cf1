-- `standard_text::standard::dense_part` meets its contract.
-- Assumes nothing.
use Rattle.standard_text.proofs.StandardParts.{chunks-ahead, Sixteens, Parted}
use Rattle.standard_text.proofs.standard.dense_part.Given as goal

abbrev pub invariant-loop-classes : goal.invariant-loop-classes
invariant-loop-classes l =
    (goal.iterator-loop-classes).can_next l.classes-iterator ×
    (goal.iterator-loop-classes).is_finite l.classes-iterator ×
    Sixteens l.classes-iterator ×
    Parted l.signs l.limit l.initial.«open».length l.initial.«open».starred l.fn.tokens.classes.now l.fn.tokens.lengths.now
    l.initial.buf l.initial.out l.initial.to l.buf l.out l.to (chunks-ahead l.classes-iterator) l.«open».length l.«open».starred
