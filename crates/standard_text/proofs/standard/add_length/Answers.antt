-- `standard_text::standard::add_length` meets its contract.
-- Assumes nothing.
use mathlib.Core.List.{[], append-nil}
use native.Mathlib.Omega.{arith}
use borrow.Author.Tests.{eq-eqb}
use Rattle.number.proofs.Grown.{grown, dropped, within}
use Rattle.text_buffer.proofs.Bytes.{byte-short, in-parens}
use Rattle.standard_text.proofs.standard.add_length.Goals as goal

pub add_byte-c-requires : goal.add_byte-c-requires
add_byte-c-requires c =
    let a = c.add_byte-a.ensures in
    let b = c.add_in_parens-b.ensures in
    omega (arith, a.next, a.long, byte-short c.first_byte.result, b.next, b.long, in-parens c.args.n (omega arith))

pub returns-then-n-eq1 : goal.returns-then-n-eq1
returns-then-n-eq1 c =
    let one = eq-eqb _ 1 c.if-n-eq1.true in
    let a = c.add_byte-a.ensures in
    let d = dropped _ (within _ (omega (arith, c.requires)) a) (grown _ _ c.add_in_parens-b.ensures c.add_byte-c.ensures) in
    rw one (rw (append-nil, c.first_byte.ensures, one) at (grown _ [] a d))
