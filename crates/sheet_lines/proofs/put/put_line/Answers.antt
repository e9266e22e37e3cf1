-- `sheet_lines::put::put_line` meets its contract.
-- Assumes nothing.
use Rattle.number.proofs.Place.{wrote}
use Rattle.sheet_lines.proofs.put.put_line.Goals as goal

pub returns : goal.returns
returns c = wrote _ _ c.put_bytes-end.ensures c.put_bytes.ensures
