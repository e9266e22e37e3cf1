-- `breakdown::length::six_part` meets its contract.
-- Assumes nothing.
use Rattle.std.proofs.Common.{rules}
use Rattle.breakdown.proofs.length.six_part.Goals as goal

pub returns : goal.returns
returns c = search rules
