-- `sheet_lines::put::put_texts` meets its contract.
-- Assumes nothing.
use Rattle.sheet_lines.proofs.Cutting.{cut-step}
use Rattle.sheet_lines.proofs.put.put_texts.Goals as goal

pub loop-length-preserved : goal.loop-length-preserved
loop-length-preserved c =
    let t = c.split_at.ensures in
    cut-step c.loop-length.invariant c.loop-length-test.true t.front t.back t.back_len c.put_line-place.ensures
