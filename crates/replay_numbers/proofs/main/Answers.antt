-- `replay_numbers::main` is safe: a power of ten is at least 1.
-- Assumes nothing.
use Rattle.std.proofs.Common.{◌≤◌, sym, subst, arith}
use Rattle.std.proofs.Math.Nat.{one-le-pow}
use Rattle.replay_numbers.proofs.main.Goals as goal

pub overflow_sub-n-items : goal.overflow_sub-n-items
overflow_sub-n-items c = subst (λ n. 1 ≤ n) (sym c.pow-power.ensures) (one-le-pow c.loop-exponent.exponent 10 (omega arith))
