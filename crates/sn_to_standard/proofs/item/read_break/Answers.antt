-- `sn_to_standard::item::read_break` meets its contract.
-- Assumes nothing.
use native.Mathlib.Omega.{arith}
use Rattle.sn_to_standard.proofs.Items.{no-break, some-break}
use Rattle.sn_to_standard.proofs.item.read_break.Goals as goal

pub returns-then-number-lt2 : goal.returns-then-number-lt2
returns-then-number-lt2 c = no-break _ _ c.read_number-number.ensures _ c.no_item.ensures (λ v l p. absurd (omega (arith, c.if-number-lt2.true)))

pub returns-then-text-end-lt2 : goal.returns-then-text-end-lt2
returns-then-text-end-lt2 c =
    no-break _ _ c.read_number-number.ensures _ c.no_item-then-text-end-lt2.ensures (λ v l p. absurd (omega (arith, c.if-text-end-lt2.true)))

pub returns-then-text-end-ne41 : goal.returns-then-text-end-ne41
returns-then-text-end-ne41 c =
    no-break _ _ c.read_number-number.ensures _ c.no_item-then-text-end-ne41.ensures (λ v l p. absurd (c.if-text-end-ne41.true p))

pub returns-then-text-end-ne32 : goal.returns-then-text-end-ne32
returns-then-text-end-ne32 c =
    no-break _ _ c.read_number-number.ensures _ c.no_item-then-text-end-ne32.ensures (λ v l p. c.if-text-end-ne32.true)

pub returns : goal.returns
returns c =
    some-break _ _ c.read_number-number.ensures c.if-number-lt2.false (omega (arith, c.if-text-end-lt2.false)) c.if-text-end-ne41.false c.if-text-end-ne32.false
