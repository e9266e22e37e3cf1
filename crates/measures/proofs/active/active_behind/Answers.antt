-- `measures::active::active_behind` meets its contract.
-- Assumes nothing.
use Rattle.std.proofs.Common.{sym, length-take-le}
use Rattle.measures.proofs.Part.{behind}
use Rattle.measures.proofs.active.active_behind.Goals as goal

pub slice_bounds-result-end : goal.slice_bounds-result-end
slice_bounds-result-end c = sym (length-take-le _ _ c.to_last-n.ensures.within)

pub returns : goal.returns
returns c = behind c.args.m.now c.args.lead _ c.requires c.to_last-n.ensures
