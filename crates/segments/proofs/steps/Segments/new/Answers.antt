-- `segments::steps::Segments::new` meets its contract.
-- Assumes nothing.
use Rattle.std.proofs.Common.{arith}
use Rattle.segments.proofs.Stretches.{from_start, from_last}
use Rattle.segments.proofs.steps.Segments.new.Goals as goal
use Rattle.segments.proofs.steps.Segments.new.Goals.{then-lead_in-measures, else-lead_in-measures}

pub returns : goal.returns
returns c =
    let e = c.stretch_end-lead_in.ensures in
    elim c.if-lead_in-measures.branch [
      | then-lead_in-measures w ↦ rw w.at-is (from_start _ (omega (arith, e)))
      | else-lead_in-measures w ↦ rw w.at-is (from_last _ (omega (arith, e)) _ (omega (arith, e)))
    ]
