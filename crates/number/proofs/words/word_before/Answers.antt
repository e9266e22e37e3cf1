-- `number::words::word_before` meets its contract.
-- Assumes nothing.
use mathlib.Core.Path.{refl}
use native.Mathlib.Omega.{arith}
use Rattle.number.proofs.Word.{byte-before}
use Rattle.number.proofs.words.word_before.Goals as goal

pub returns-then-b-eq0 : goal.returns-then-b-eq0
returns-then-b-eq0 c = rw c.if-b-eq0.true (record { text = refl; short = omega arith })

pub returns : goal.returns
returns c = byte-before c.args.b c.args.w (omega arith) c.if-b-eq0.false c.requires
