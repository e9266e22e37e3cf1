-- `breakdown::total::total_length` meets its contract.
-- Assumes nothing.
use lib.ListN.{length-append}
use native.Mathlib.Omega.{arith}
use Rattle.breakdown.proofs.TotalText.{total-none, total-some}
use Rattle.breakdown.proofs.total.total_length.Goals as goal

pub returns-then-streams-eq0 : goal.returns-then-streams-eq0
returns-then-streams-eq0 c = rw (total-none _ c.if-streams-eq0.true)

pub returns : goal.returns
returns c = rw (total-some _ c.if-streams-eq0.false) (simp length-append (omega arith))
