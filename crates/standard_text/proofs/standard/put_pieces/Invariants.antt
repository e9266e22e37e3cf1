-- `standard_text::standard::put_pieces` meets its contract.
-- Assumes nothing.
use Rattle.text_buffer.specs.Buffer.{Added}
use Rattle.standard_text.specs.Filled.{done_texts}
use Rattle.standard_text.proofs.standard.put_pieces.Given as goal

abbrev pub invariant-loop-i : goal.invariant-loop-i
invariant-loop-i l = Added l.initial.buf l.initial.out l.initial.to (done_texts l.signs l.i l.done) l.buf l.out l.to
