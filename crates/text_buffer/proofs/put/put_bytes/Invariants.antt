-- `text_buffer::put::put_bytes` meets its contract.
-- Assumes nothing.
use Rattle.number.proofs.Place.{Putting}
use Rattle.text_buffer.proofs.put.put_bytes.Given as goal

abbrev pub invariant-loop-i : goal.invariant-loop-i
invariant-loop-i l = Putting l.text l.initial.out l.at l.out l.i
