-- `standard_text::three::standard_three` meets its contract.
-- Assumes nothing.
use native.Mathlib.Omega.{arith}
use Rattle.number.proofs.Digits.{at_most}
use Rattle.standard_text.proofs.three.standard_three.Goals as goal

pub add_star-requires : goal.add_star-requires
add_star-requires c =
    let t = c.three_pieces-t in
    let o = t.ensures.simple in
    let a = c.add_u64-bare.ensures in
    omega (arith, o.room, a.next, a.long, at_most 20 t.result.joined.length (omega arith) (omega arith))
