-- `breakdown::length::length_of_measures` meets its contract.
-- Assumes nothing.
use lib.ListN.{length}
use Rattle.breakdown.proofs.Tallied.{Tallied}
use Rattle.breakdown.proofs.length.length_of_measures.Given as goal

abbrev pub invariant-loop-parts : goal.invariant-loop-parts
invariant-loop-parts l = Tallied l.fn.part.measures.now l.parts.rest.now l.form l.tally

abbrev pub decreases-loop-parts : goal.decreases-loop-parts
decreases-loop-parts l = length l.parts.rest.now
