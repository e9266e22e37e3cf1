-- `breakdown::parts::ActivePart::new` meets its contract.
-- Assumes nothing.
use Rattle.breakdown.proofs.Modes.{active-measures}
use Rattle.breakdown.proofs.parts.ActivePart.new.Goals as goal

pub invariant_of-result : goal.invariant_of-result
invariant_of-result c =
    let a = active-measures c.args.chart.measures.now c.args.chart.few.few in
    let e = c.active_range.ensures in
    record { few = rw e a.few; alternates = rw e a.alternates }
