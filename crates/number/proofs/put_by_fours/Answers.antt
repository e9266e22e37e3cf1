-- `number::put_by_fours` meets its contract: the loop's invariant and its steps are `Backward`'s.
-- Assumes nothing.
use native.Mathlib.Omega.{arith}
use mathlib.Core.Path.{◌∙◌}
use Rattle.number.proofs.Backward.{starts, step-four, four-more, finished}
use Rattle.number.proofs.put_by_fours.Goals as goal

pub loop-rest-init : goal.loop-rest-init
loop-rest-init c = rw c.requires.0 (starts _ _ (omega (arith, c.requires.1.fits)))

pub overflow_sub-k : goal.overflow_sub-k
overflow_sub-k c = let l = c.loop-rest in four-more _ _ l.out l.k l.rest l.invariant c.loop-rest-test.true

pub store_word-requires : goal.store_word-requires
store_word-requires c =
    let l = c.loop-rest in
    omega (arith, four-more _ _ l.out l.k l.rest l.invariant c.loop-rest-test.true, l.invariant.long, l.invariant.within)

pub loop-rest-preserved : goal.loop-rest-preserved
loop-rest-preserved c =
    let l = c.loop-rest in
    rw c.store_word.ensures (step-four _ _ l.out l.k l.rest l.invariant c.loop-rest-test.true _ c.four_digits.ensures)

pub put_by_ten-requires : goal.put_by_ten-requires
put_by_ten-requires c =
    let i = c.loop-rest.invariant in
    (i.place, record { fits = omega (arith, i.place, i.long, i.within) })

pub returns : goal.returns
returns c =
    let l = c.loop-rest in
    c.put_by_ten.ensures ∙ finished _ _ l.out l.k l.rest l.invariant
