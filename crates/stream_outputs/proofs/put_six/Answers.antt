-- `stream_outputs::put_six` meets its contract: the texts before kind number i are added; the loop's steps are `Pass`'s.
-- Assumes nothing.
use Rattle.std.proofs.Common.{arith}
use Rattle.stream_outputs.proofs.Pass.{next-room, next-between, going-on, going-ends}
use Rattle.stream_outputs.proofs.put_six.Goals as goal

pub text_of_tokens-next-requires : goal.text_of_tokens-next-requires
text_of_tokens-next-requires c =
    let t = c.requires.0 in
    let g = c.loop-i.invariant in
    (t.tokens, g.ready, next-room g t.room (omega arith) c.form_of.ensures)

pub between-requires : goal.between-requires
between-requires c =
    next-between c.loop-i.invariant c.requires.0.room (omega arith) c.form_of.ensures c.text_of_tokens-next.ensures (omega arith)

pub loop-i-preserved : goal.loop-i-preserved
loop-i-preserved c =
    going-on c.loop-i.invariant c.requires.0.room (omega arith) c.form_of.ensures c.text_of_tokens-next.ensures _ c.between.ensures

pub returns : goal.returns
returns c = going-ends c.loop-i.invariant c.requires.0.room (omega arith) (omega arith) c.put_buffer.ensures
