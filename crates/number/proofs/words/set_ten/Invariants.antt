-- `number::words::set_ten` meets its contract.
-- Assumes nothing.
use Prim.Native.Nat.{◌*◌}
use Rattle.number.specs.PlacesSet.{PlacesSet}
use Rattle.number.specs.Word.{number_word}
use Rattle.number.proofs.words.set_ten.Given as goal

abbrev pub invariant-loop-last : goal.invariant-loop-last
invariant-loop-last l = PlacesSet (number_word (10 * l.tens)) (10 * l.tens) l.last l.initial.words l.words
