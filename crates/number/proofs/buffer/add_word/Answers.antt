-- `number::buffer::add_word` meets its contract.
-- Assumes nothing.
use Rattle.number.proofs.Word.{word_kept}
use Rattle.number.proofs.buffer.add_word.Goals as goal

pub returns : goal.returns
returns c =
    word_kept c.args.w c.requires.0 c.requires.1 c.store_word.ensures
