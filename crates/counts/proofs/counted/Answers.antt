-- `counts::counted` meets its contract.
-- Assumes nothing.
use Rattle.std.proofs.Common.{rules}
use native.Mathlib.Omega.{arith}
use Rattle.counts.proofs.TokenSums.{fits, low, counted, uncounted}
use Rattle.counts.proofs.counted.Goals as goal

pub overflow_sub-tail-2 : goal.overflow_sub-tail-2
overflow_sub-tail-2 c = fits c.requires

pub returns-then-is_empty : goal.returns-then-is_empty
returns-then-is_empty c = rw c.no_counts.ensures (uncounted c.requires (search rules))

pub overflow_add-result : goal.overflow_add-result
overflow_add-result c = omega (arith, fits c.requires, low c.requires)

pub overflow_add-result-2 : goal.overflow_add-result-2
overflow_add-result-2 c = omega (arith, fits c.requires, low c.requires)

pub returns : goal.returns
returns c = counted c.requires (search rules) _ _ c.wide.ensures.gap c.wide-2.ensures.gap
