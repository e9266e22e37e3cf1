-- `sheet_lines::chart::put_lines` meets its contract.
-- Assumes nothing.
use Rattle.number.proofs.Place.{wrote}
use Rattle.sheet_lines.proofs.Numbers.{started}
use Rattle.sheet_lines.proofs.chart.put_lines.Goals as goal

pub returns : goal.returns
returns c =
    let w = wrote _ _ c.put_texts-c.ensures c.put_line.ensures in
    started c.requires.room (wrote _ _ c.put_line-a.ensures (wrote _ _ c.put_counts-b.ensures w))
