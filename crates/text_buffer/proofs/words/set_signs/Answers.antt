-- `text_buffer::words::set_signs` meets its contract.
-- Assumes nothing.
use Rattle.text_buffer.proofs.Table.{signs-set}
use Rattle.text_buffer.proofs.words.set_signs.Goals as goal

pub returns : goal.returns
returns c =
    signs-set _ _ _ _ _ c.requires.0 c.set_same.ensures c.set_same-2.ensures c.set_same-3.ensures
