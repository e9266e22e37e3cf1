-- `text_buffer::gap::add_in_parens` meets its contract.
-- Assumes nothing.
use native.Mathlib.Omega.{arith}
use Rattle.number.proofs.Digits.{at_most}
use Rattle.text_buffer.proofs.gap.add_in_parens.Goals as goal

pub add_byte-requires : goal.add_byte-requires
add_byte-requires c = omega (arith, at_most 20 c.args.n (omega arith) (omega arith))
