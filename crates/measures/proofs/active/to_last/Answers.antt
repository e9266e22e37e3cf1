-- `measures::active::to_last` meets its contract: the loop's invariant and its steps are `Part`'s.
-- Assumes nothing.
use Rattle.std.proofs.Common.{◌≡◌, ◌+◌, ◌-◌, arith}
use Rattle.measures.proofs.Part.{at-end, break-back, stream-back, none-back}
use Rattle.measures.proofs.active.to_last.Goals as goal

pub loop-last-init : goal.loop-last-init
loop-last-init c = at-end c.args.m.now

pub returns-then-m-last-ge16 : goal.returns-then-m-last-ge16
returns-then-m-last-ge16 c =
    let l = c.loop-last in
    let e : l.last - 1 + 1 ≡ l.last = omega arith in
    rw e (stream-back c.args.m.now l.last l.invariant c.loop-last-test.true c.if-m-last-ge16.true)

pub loop-last-preserved : goal.loop-last-preserved
loop-last-preserved c =
    let l = c.loop-last in
    break-back c.args.m.now l.last l.invariant c.loop-last-test.true c.if-m-last-ge16.false

pub returns : goal.returns
returns c =
    let z : c.loop-last.last ≡ 0 = omega arith in
    rw z at (none-back c.args.m.now c.loop-last.last c.loop-last.invariant c.loop-last-test.false)
