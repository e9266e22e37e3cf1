-- `alike::same_places` meets its contract: the loop's invariant and its steps are `Same`'s.
-- Assumes nothing.
use mathlib.Core.Path.{refl}
use mathlib.Core.Bool.{false≢true}
use borrow.Author.Tests.{not-true, not-false}
use Rattle.alike.proofs.Same.{agree-none, agree-more, agree-all, unlike-length, unlike-place}
use Rattle.alike.proofs.same_places.Goals as goal

pub returns-then-a-b : goal.returns-then-a-b
returns-then-a-b c = let s = c.args in (λ e. absurd (false≢true e), unlike-length s.a.now s.b.now c.if-a-b.true)

pub loop-i-init : goal.loop-i-init
loop-i-init c = agree-none _ _ c.if-a-b.false

pub returns-then-d-b : goal.returns-then-d-b
returns-then-d-b c =
    let s = c.args in
    (λ e. absurd (false≢true e), unlike-place s.a.now s.b.now c.loop-i.i c.loop-i-test.true (not-true _ c.if-d-b.true))

pub loop-i-preserved : goal.loop-i-preserved
loop-i-preserved c = agree-more _ _ _ c.loop-i.invariant c.loop-i-test.true (not-false _ c.if-d-b.false)

pub returns : goal.returns
returns c = (λ e. agree-all _ _ _ c.loop-i.invariant c.loop-i-test.false, λ s. refl)
