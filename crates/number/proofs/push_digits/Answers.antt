-- `number::push_digits` meets its contract.
-- Assumes nothing.
use lib.ListN.{length-set}
use native.Mathlib.Omega.{arith}
use Rattle.number.proofs.Push.{refused-4, written, none, one}
use Rattle.number.proofs.push_digits.Goals as goal

pub returns-then-out-eq0 : goal.returns-then-out-eq0
returns-then-out-eq0 c = none _ _ (omega arith)

pub shape_of-out-then-n-lt10 : goal.shape_of-out-then-n-lt10
shape_of-out-then-n-lt10 c = simp length-set

pub returns-then-n-lt10 : goal.returns-then-n-lt10
returns-then-n-lt10 c = one _ _ (omega arith) (omega arith)

pub returns-then-out-length : goal.returns-then-out-length
returns-then-out-length c = refused-4 _ _ (omega arith)

pub put_by_fours-requires : goal.put_by_fours-requires
put_by_fours-requires c = (c.count_by_fours-length.ensures.number, record { fits = omega arith })

pub returns : goal.returns
returns c =
    written _ _ _ (omega arith) c.put_by_fours.ensures _ c.count_by_fours-length.ensures.number
