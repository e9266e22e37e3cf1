-- `breakdown::total::total_text` meets its contract.
-- Assumes nothing.
use native.Mathlib.Omega.{arith}
use Rattle.number.proofs.Padded.{padded-none}
use Rattle.number.proofs.Place.{room-first, room_next, wrote}
use Rattle.breakdown.proofs.TotalText.{total-none, total-some}
use Rattle.breakdown.proofs.total.total_text.Goals as goal

pub put_no_streams-requires : goal.put_no_streams-requires
put_no_streams-requires c = rw (total-none _ c.if-streams-eq0.true) at c.requires

pub returns-then-streams-eq0 : goal.returns-then-streams-eq0
returns-then-streams-eq0 c = rw (total-none _ c.if-streams-eq0.true) c.put_no_streams.ensures

pub put_u64-a-requires : goal.put_u64-a-requires
put_u64-a-requires c = (omega arith, rw padded-none (room-first _ _ (rw (total-some _ c.if-streams-eq0.false) at c.requires)))

pub put_bytes-requires : goal.put_bytes-requires
put_bytes-requires c =
    room_next _ _ (rw padded-none at c.put_u64-a.ensures) (rw (total-some _ c.if-streams-eq0.false) at c.requires)

pub returns : goal.returns
returns c =
    let u = rw padded-none at c.put_u64-a.ensures in
    let w = wrote _ _ u c.put_bytes.ensures in
    rw (total-some _ c.if-streams-eq0.false) w
