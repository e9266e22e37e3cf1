-- `number::count_by_fours` meets its contract: the digits counted so far and those of `rest` are all of them.
-- Assumes nothing.
use native.Mathlib.Omega.{arith}
use Rattle.number.proofs.Digits.{length_without, at_most}
use Rattle.number.proofs.count_by_fours.Goals as goal

pub loop-rest-init : goal.loop-rest-init
loop-rest-init c = (omega arith, at_most 20 c.args.n (omega arith) (omega arith))

pub loop-rest-preserved : goal.loop-rest-preserved
loop-rest-preserved c = (omega (arith, length_without 4 c.loop-rest.rest (omega arith)), c.loop-rest.invariant.1)
