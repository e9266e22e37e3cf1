-- `number::count_by_ten` meets its contract: the k-th digit from the last is the last of `rest`.
-- Assumes nothing.
use mathlib.Core.Path.{ap}
use native.Mathlib.Omega.{arith}
use lib.ListN.{length}
use Rattle.number.proofs.Digits.{digits-one, length_more, length_some, at_most}
use Rattle.number.proofs.count_by_ten.Goals as goal

pub loop-k-init : goal.loop-k-init
loop-k-init c = (omega arith, at_most 20 c.args.n (omega arith) (omega arith))

pub returns-then-rest-lt10 : goal.returns-then-rest-lt10
returns-then-rest-lt10 c = omega (arith, ap length (digits-one c.loop-k.rest (omega arith)))

pub loop-k-preserved : goal.loop-k-preserved
loop-k-preserved c = let l = c.loop-k in (omega (arith, length_more l.rest (omega arith)), l.invariant.1)

pub returns : goal.returns
returns c = omega (arith, length_some c.loop-k.rest)
