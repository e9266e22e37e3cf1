-- `number::buffer::add_long`: the number falls.
-- Assumes nothing.
use Rattle.number.proofs.buffer.+add_long.Given as goal

abbrev pub decreases-add_long : goal.decreases-add_long
decreases-add_long l = l.n
