-- `number::put_by_ten` meets its contract: the loop's invariant and its steps are `Backward`'s.
-- Assumes nothing.
use lib.ListN.{length-set}
use native.Mathlib.Omega.{arith}
use Rattle.number.proofs.Backward.{starts, step-one, finished-one}
use Rattle.number.proofs.put_by_ten.Goals as goal

pub loop-rest-init : goal.loop-rest-init
loop-rest-init c = rw c.requires.0 (starts _ _ (omega (arith, c.requires.1.fits)))

pub loop-rest-preserved : goal.loop-rest-preserved
loop-rest-preserved c = let l = c.loop-rest in step-one _ _ l.out l.k l.rest l.invariant (omega arith)

pub shape_of-out : goal.shape_of-out
shape_of-out c = simp length-set (omega arith)

pub returns : goal.returns
returns c = let l = c.loop-rest in finished-one _ _ l.out l.k l.rest l.invariant (omega arith)
