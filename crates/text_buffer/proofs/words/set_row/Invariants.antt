-- `text_buffer::words::set_row` meets its contract.
-- Assumes nothing.
use Rattle.number.specs.PlacesSet.{PlacesSet}
use Rattle.text_buffer.specs.Words.{class_word}
use Rattle.text_buffer.proofs.words.set_row.Given as goal

abbrev pub invariant-loop-class : goal.invariant-loop-class
invariant-loop-class l = PlacesSet (class_word l.b l.tail) l.row l.class l.initial.words l.words
