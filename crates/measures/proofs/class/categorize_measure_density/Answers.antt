-- `measures::class::categorize_measure_density` meets its contract.
-- Assumes nothing.
use Rattle.std.proofs.Common.{sym, arith}
use Rattle.rules.proofs.Steps.{class-0, class-1, class-2, class-3, class-4}
use Rattle.measures.proofs.class.categorize_measure_density.Goals as goal

pub returns-then-d-lt16 : goal.returns-then-d-lt16
returns-then-d-lt16 c = sym (class-0 _ (omega arith))

pub returns-then-d-lt20 : goal.returns-then-d-lt20
returns-then-d-lt20 c = sym (class-1 _ (omega arith) (omega arith))

pub returns-then-d-lt24 : goal.returns-then-d-lt24
returns-then-d-lt24 c = sym (class-2 _ (omega arith) (omega arith))

pub returns-then-d-lt32 : goal.returns-then-d-lt32
returns-then-d-lt32 c = sym (class-3 _ (omega arith) (omega arith))

pub returns : goal.returns
returns c = sym (class-4 _ (omega arith))
