-- `scan::bounds_of` meets its contract: one law for each class.
-- Assumes nothing.
use Rattle.rules.proofs.Steps.{class-0, class-1, class-2, class-3, class-4}
use native.Mathlib.Omega.{arith}
use Rattle.scan.proofs.bounds_of.Goals as goal

pub returns-in-0 : goal.returns-in-0
returns-in-0 c = rw c.in-0.is (record { fit = omega arith; same = λ d g h. class-0 d (omega arith) })

pub returns-in-1 : goal.returns-in-1
returns-in-1 c = rw c.in-1.is (record { fit = omega arith; same = λ d g h. class-1 d (omega arith) (omega arith) })

pub returns-in-2 : goal.returns-in-2
returns-in-2 c = rw c.in-2.is (record { fit = omega arith; same = λ d g h. class-2 d (omega arith) (omega arith) })

pub returns-in-3 : goal.returns-in-3
returns-in-3 c = rw c.in-3.is (record { fit = omega arith; same = λ d g h. class-3 d (omega arith) (omega arith) })

pub returns-in-4 : goal.returns-in-4
returns-in-4 c = rw c.in-4.is (record { fit = omega arith; same = λ d g h. class-4 d (omega arith) })
