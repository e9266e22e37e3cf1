-- `number::digit_count` meets its contract.
-- Assumes nothing.
use Prim.Native.Nat.{◌/◌}
use native.Mathlib.Omega.{arith}
use Rattle.number.proofs.Digits.{digits-one, length_more}
use lib.ListN.{length}
use mathlib.Core.Path.{ap}
use Rattle.number.proofs.digit_count.Goals as goal

pub returns-then-n-lt10 : goal.returns-then-n-lt10
returns-then-n-lt10 c = record { number = omega (arith, ap length (digits-one c.args.n c.if-n-lt10.true)); most = omega arith }

pub returns-else-n-lt10 : goal.returns-else-n-lt10
returns-else-n-lt10 c =
    let n = c.args.n in
    record { number = omega (arith, length_more n (omega arith), ap length (digits-one (n / 10) (omega arith))); most = omega arith }
