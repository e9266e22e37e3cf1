-- `puvolamie_c::charts::pv_active_range` meets its contract.
-- Assumes nothing.
use Rattle.measures.proofs.Part.{active-length}
use Rattle.puvolamie_c.proofs.charts.pv_active_range.Goals as goal

pub returns : goal.returns
returns c = cc (active-length c.args.m.now, c.lead_in-start.ensures.number)
