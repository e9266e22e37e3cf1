-- `number::put_u64` meets its contract.
-- Assumes nothing.
use Rattle.std.proofs.Common.{arith}
use Rattle.number.proofs.Padded.{padded-parts, padded-length}
use Rattle.number.proofs.Place.{part_room, part-put}
use Rattle.number.proofs.put_u64.Goals as goal

pub put_padded-requires : goal.put_padded-requires
put_padded-requires c =
    let a = c.args in
    let count = c.count_by_fours-count.ensures.number in
    let parts = padded-parts a.width a.n count c.saturating_sub-spaces.ensures in
    (count, record { fits = omega (arith, rw parts at (part_room _ _ a.out.now a.at c.requires.1)) })

pub returns : goal.returns
returns c =
    let a = c.args in
    let count = c.count_by_fours-count.ensures.number in
    let parts = padded-parts a.width a.n count c.saturating_sub-spaces.ensures in
    part-put _ _ _ _ c.requires.1 parts (omega (arith, padded-length a.width a.n)) c.put_padded.ensures
