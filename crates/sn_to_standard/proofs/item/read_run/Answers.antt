-- `sn_to_standard::item::read_run` meets its contract.
-- Assumes nothing.
use Prim.Native.Nat.{◌<◌}
use mathlib.Core.Path.{refl, sym, ◌∙◌}
use mathlib.Core.Logic.{◌≢◌}
use native.Mathlib.Omega.{arith}
use lib.ListN.{length, get_or}
use Rattle.sn_to_standard.specs.Items.{mark_class}
use Rattle.sn_to_standard.proofs.Items.{run-at-end, bare, some-run, no-marked, some-marked}
use Rattle.sn_to_standard.proofs.item.read_run.Goals as goal
use Rattle.sn_to_standard.proofs.item.read_run.Goals.{Else-at-text, Else-class-eq1}

-- the place is before the end
before_end : (c : Else-at-text) → c.args.at < length c.args.text.now
before_end c = omega (arith, c.if-at-text.false, c.requires.within)

-- its byte marks a class
marked : (c : Else-class-eq1) → mark_class (get_or c.args.text.now c.args.at 0) ≢ 1
marked c z = c.if-class-eq1.false (c.class_of-class.ensures ∙ z)

pub returns-then-at-text : goal.returns-then-at-text
returns-then-at-text c = run-at-end _ _ _ c.no_item.ensures c.if-at-text.true

pub returns-then-class-eq1 : goal.returns-then-class-eq1
returns-then-class-eq1 c =
    let g = goal.at.returns-then-class-eq1 c in
    let r = c.read_number-bare.ensures in
    some-run (bare _ _ (before_end g.Else-at-text) (sym c.class_of-class.ensures ∙ c.if-class-eq1.true)) r _ refl (omega arith) r.within

pub returns-then-number-eq0 : goal.returns-then-number-eq0
returns-then-number-eq0 c =
    let g = goal.at.returns-then-number-eq0 c in
    no-marked _ _ (before_end g.Else-at-text) (marked g.Else-class-eq1) c.read_number-number.ensures _ c.no_item-then-number-eq0.ensures
    (λ v l. absurd (omega (arith, c.if-number-eq0.true)))

pub returns-then-end-text : goal.returns-then-end-text
returns-then-end-text c =
    let g = goal.at.returns-then-end-text c in
    no-marked _ _ (before_end g.Else-at-text) (marked g.Else-class-eq1) c.read_number-number.ensures _ c.no_item-then-end-text.ensures
    (λ v l. absurd (omega (arith, c.if-end-text.true)))

pub returns-then-text-end : goal.returns-then-text-end
returns-then-text-end c =
    let g = goal.at.returns-then-text-end c in
    no-marked _ _ (before_end g.Else-at-text) (marked g.Else-class-eq1) c.read_number-number.ensures _ c.no_item-then-text-end.ensures
    (λ v l e. omega arith)

pub returns : goal.returns
returns c =
    let g = goal.at.returns c in
    let r = c.read_number-number.ensures in
    some-marked _ _ (before_end g.Else-at-text) (marked g.Else-class-eq1) r _ c.class_of-class.ensures
    (omega (arith, c.if-end-text.false, r.within)) c.if-text-end.false
