-- `number::words::set_ten` meets its contract.
-- Assumes nothing.
use Prim.Native.Nat.{◌+◌}
use mathlib.Core.List.{[], ◌∷◌}
use native.Mathlib.Omega.{arith}
use Rattle.number.specs.Word.{byte_text, Word}
use Rattle.number.proofs.PlacesSet.{places-none, places-more}
use Rattle.number.proofs.Word.{byte-text, word_count, word_on, short-digits}
use Rattle.number.proofs.words.set_ten.Goals as goal
use Rattle.number.proofs.words.set_ten.Goals.{After-word_before}

-- the last digit
last_word : (c : After-word_before) → Word ((48 + c.loop-last.last) ∷ []) c.word_before.result
last_word c = rw (byte-text (48 + c.loop-last.last) (λ e. omega arith)) at c.word_before.ensures

pub loop-last-init : goal.loop-last-init
loop-last-init c = places-none

pub word_before-requires-in-loop-last : goal.word_before-requires-in-loop-last
word_before-requires-in-loop-last c = omega (arith, word_count (last_word (goal.at.word_before-requires-in-loop-last c).After-word_before))

pub loop-last-preserved : goal.loop-last-preserved
loop-last-preserved c =
    let l = c.loop-last in
    let f = c.first_byte-first in
    let w = word_on (byte_text f.result) (last_word (goal.at.loop-last-preserved c).After-word_before) c.word_before-in-loop-last.ensures in
    places-more _ _ (omega arith) l.invariant (rw (f.ensures, short-digits c.args.tens l.last c.requires.0 (omega arith)) at w)
