-- `sheet_lines::put::put_refusal` meets its contract.
-- Assumes nothing.
use Rattle.std.proofs.Common.{[], ◌∷◌, ◌++◌, arith}
use Rattle.number.specs.Digits.{digits}
use Rattle.rules.specs.Bytes.{bytes}
use Rattle.number.proofs.Padded.{padded-none}
use Rattle.number.proofs.Place.{room-first, room_next, wrote}
use Rattle.sheet_lines.proofs.Numbers.{refusal-room, started}
use Rattle.sheet_lines.proofs.put.put_refusal.Goals as goal

pub put_u64-b-requires : goal.put_u64-b-requires
put_u64-b-requires c =
    let room = refusal-room c.from.result c.requires (omega arith) in
    (omega arith, rw padded-none (room-first _ (10 ∷ []) (room_next (bytes "refused ") (digits c.from.result ++ (10 ∷ [])) c.put_bytes-a.ensures room)))

pub put_bytes-requires : goal.put_bytes-requires
put_bytes-requires c =
    let room = refusal-room c.from.result c.requires (omega arith) in
    let rest = room_next (bytes "refused ") (digits c.from.result ++ (10 ∷ [])) c.put_bytes-a.ensures room in
    room_next _ (10 ∷ []) (rw padded-none at c.put_u64-b.ensures) rest

pub returns : goal.returns
returns c =
    let end = wrote _ _ (rw padded-none at c.put_u64-b.ensures) c.put_bytes.ensures in
    rw (← c.number.ensures, ← c.from.ensures)
    (started (refusal-room c.from.result c.requires (omega arith)) (wrote (bytes "refused ") _ c.put_bytes-a.ensures end))
