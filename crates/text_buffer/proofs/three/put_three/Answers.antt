-- `text_buffer::three::put_three` meets its contract.
-- Assumes nothing.
use Rattle.number.proofs.Place.{wrote}
use Rattle.text_buffer.proofs.three.put_three.Goals as goal

pub returns : goal.returns
returns c = wrote _ _ c.put_buffer-second.ensures (wrote _ _ c.put_buffer-third.ensures c.put_buffer.ensures)
