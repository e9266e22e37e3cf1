-- `number::words::set_numbers` meets its contract.
-- Assumes nothing.
use Prim.Native.Nat.{◌*◌}
use Rattle.number.specs.PlacesSet.{PlacesSet}
use Rattle.number.specs.Word.{number_word}
use Rattle.number.proofs.words.set_numbers.Given as goal

abbrev pub invariant-loop-tens : goal.invariant-loop-tens
invariant-loop-tens l = PlacesSet (number_word 0) 0 (10 * l.tens) l.initial.words l.words
