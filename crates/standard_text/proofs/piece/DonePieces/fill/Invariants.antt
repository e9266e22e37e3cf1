-- `standard_text::piece::DonePieces::fill` meets its contract.
-- Assumes nothing.
use Rattle.rules.specs.Slices.{paired}
use Rattle.standard_text.proofs.StandardParts.{ahead, Filling, Long}
use Rattle.standard_text.proofs.piece.DonePieces.fill.Given as goal

abbrev pub invariant-loop-i : goal.invariant-loop-i
invariant-loop-i l =
    Filling l.limit l.initial.«open» (paired l.fn.tokens.classes.now l.fn.tokens.lengths.now) (ahead l.fn.tokens.classes.now l.fn.tokens.lengths.now l.i)
    l.«open» l.count l.self
    × Long l.self
