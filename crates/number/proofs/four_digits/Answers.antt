-- `number::four_digits` meets its contract.
-- Assumes nothing.
use native.Mathlib.Omega.{arith}
use Rattle.number.proofs.Four.{tens-are, four-digits}
use Rattle.number.proofs.four_digits.Goals as goal

pub overflow_mul-result-2 : goal.overflow_mul-result-2
overflow_mul-result-2 c = omega (arith, tens-are c.args.n)

pub overflow_sub-result : goal.overflow_sub-result
overflow_sub-result c = omega (arith, tens-are c.args.n)

pub overflow_add-result : goal.overflow_add-result
overflow_add-result c = omega (arith, tens-are c.args.n)

pub returns : goal.returns
returns c = four-digits c.args.n
