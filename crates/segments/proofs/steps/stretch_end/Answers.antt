-- `segments::steps::stretch_end` meets its contract.
-- Assumes nothing.
use native.Mathlib.Omega.{arith}
use Rattle.segments.proofs.Stretches.{stretch-stop, stretch-more, stretch-end}
use Rattle.segments.proofs.steps.stretch_end.Goals as goal

pub returns-then-is_stream-stream : goal.returns-then-is_stream-stream
returns-then-is_stream-stream c =
    let a = c.args in
    let l = c.loop-i in
    omega (arith, l.invariant, stretch-stop a.stream a.m.now l.i (omega arith) (rw c.is_stream.ensures at c.if-is_stream-stream.true))

pub loop-i-preserved : goal.loop-i-preserved
loop-i-preserved c =
    let a = c.args in
    let l = c.loop-i in
    omega (arith, l.invariant, stretch-more a.stream a.m.now l.i (omega arith) (rw c.is_stream.ensures at c.if-is_stream-stream.false))

pub returns : goal.returns
returns c =
    let a = c.args in
    omega (arith, c.loop-i.invariant, stretch-end a.stream a.m.now c.loop-i.i (omega arith))
