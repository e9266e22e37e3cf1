-- `sn_to_standard::item::read_number` meets its contract.
-- Assumes nothing.
use Prim.Native.Nat.{ℕ, ◌≤◌}
use mathlib.Core.Path.{sym, ◌∙◌}
use native.Mathlib.Omega.{arith}
use lib.ListN.{get_or, drop_of_length-le}
use lib.Seq.{drop-cons}
use Rattle.sn_to_standard.proofs.Numbers.{digit-bounds, starts, stopped, by_zero, by-large, goes_on_lem}
use Rattle.sn_to_standard.proofs.item.read_number.Goals as goal
use Rattle.sn_to_standard.proofs.item.read_number.Goals.{Else-not-is_digit}

-- a digit was found
digit : (c : Else-not-is_digit) → let x = get_or c.args.text.now c.loop-i.i 0 in (48 ≤ x) × (x ≤ 57)
digit c = digit-bounds _ (sym c.is_digit.ensures ∙ c.if-not-is_digit.false)

pub loop-i-init : goal.loop-i-init
loop-i-init c = starts c.requires

pub returns-then-not-is_digit : goal.returns-then-not-is_digit
returns-then-not-is_digit c =
    stopped c.loop-i.invariant (rw (drop-cons {A = ℕ} _ _ 0 c.loop-i-test.true) (sym c.is_digit.ensures ∙ c.if-not-is_digit.true))

pub overflow_sub-value : goal.overflow_sub-value
overflow_sub-value c = omega (arith, digit (goal.at.overflow_sub-value c).Else-not-is_digit)

pub overflow_cast-value : goal.overflow_cast-value
overflow_cast-value c = omega (arith, digit (goal.at.overflow_cast-value c).Else-not-is_digit)

pub overflow_add-value : goal.overflow_add-value
overflow_add-value c = omega (arith, digit (goal.at.overflow_add-value c).Else-not-is_digit)

pub returns-then-value-eq0 : goal.returns-then-value-eq0
returns-then-value-eq0 c =
    by_zero c.loop-i.invariant c.loop-i-test.true (digit (goal.at.returns-then-value-eq0 c).Else-not-is_digit) (omega arith)

pub returns-then-value-gt1048576 : goal.returns-then-value-gt1048576
returns-then-value-gt1048576 c =
    by-large c.loop-i.invariant c.loop-i-test.true (digit (goal.at.returns-then-value-gt1048576 c).Else-not-is_digit) c.if-value-gt1048576.true

pub loop-i-preserved : goal.loop-i-preserved
loop-i-preserved c =
    goes_on_lem c.loop-i.invariant c.loop-i-test.true (digit (goal.at.loop-i-preserved c).Else-not-is_digit) (omega arith) c.if-value-gt1048576.false

pub returns : goal.returns
returns c = stopped c.loop-i.invariant (rw (drop_of_length-le _ c.loop-i-test.false) tt)
