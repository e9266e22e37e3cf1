-- `standard_text::standard::add_piece` meets its contract.
-- Assumes nothing.
use native.Mathlib.Omega.{arith}
use Rattle.number.proofs.Digits.{at_most}
use Rattle.text_buffer.proofs.Bytes.{star-short}
use Rattle.standard_text.proofs.standard.add_piece.Goals as goal

pub add_star-b-requires : goal.add_star-b-requires
add_star-b-requires c =
    let a = c.add_u64-a.ensures in
    omega (arith, c.requires, a.next, a.long, at_most 20 c.args.n (omega arith) (omega arith))

pub add_gap-requires : goal.add_gap-requires
add_gap-requires c =
    let a = c.add_u64-a.ensures in
    let b = c.add_star-b.ensures in
    omega (arith, c.requires, a.next, a.long, at_most 20 c.args.n (omega arith) (omega arith), b.next, b.long, star-short c.args.starred)
