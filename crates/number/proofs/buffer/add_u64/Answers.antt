-- `number::buffer::add_u64` meets its contract.
-- Assumes nothing.
use native.Mathlib.Omega.{arith}
use Rattle.number.proofs.Digits.{at_most}
use Rattle.number.proofs.Word.{worded}
use Rattle.number.proofs.buffer.add_u64.Goals as goal

pub add_long-requires : goal.add_long-requires
add_long-requires c =
    record { fits = omega (arith, c.requires.0, at_most 20 c.args.n (omega arith) (omega arith)) }

pub add_word-requires : goal.add_word-requires
add_word-requires c = (omega (arith, c.requires.0), (c.requires.2 c.args.n (omega arith)).short)

pub returns : goal.returns
returns c =
    worded (c.requires.2 c.args.n (omega arith)) c.add_word.ensures
