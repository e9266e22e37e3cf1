-- `scan::class_at` meets its contract: the digit that is left is the class, and above 32 that of 32.
-- Assumes nothing.
use Rattle.scan.proofs.Classes.{digit_lem}
use Rattle.scan.proofs.class_at.Goals as goal

pub returns : goal.returns
returns c = rw c.min-digit.ensures (digit_lem c.args.d)
