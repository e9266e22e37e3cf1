-- `text_buffer::put::put_bytes` meets its contract.
-- Assumes nothing.
use mathlib.Core.Path.{◌≡◌}
use native.Mathlib.Omega.{arith}
use lib.ListN.{length}
use Rattle.number.proofs.Place.{put_step, put-done}
use Rattle.text_buffer.proofs.put.put_bytes.Goals as goal

pub loop-i-preserved : goal.loop-i-preserved
loop-i-preserved c = put_step c.loop-i.invariant c.loop-i-test.true

pub returns : goal.returns
returns c =
    let end : c.loop-i.i ≡ length c.args.text.now = omega arith in
    rw (← end) (put-done c.loop-i.invariant c.loop-i-test.false)
