-- `breakdown::length::due_of_measures` meets its contract.
-- Assumes nothing.
use Prim.Native.Nat.{ℕ}
use mathlib.Core.Path.{ap, ◌∙◌}
use native.Mathlib.Omega.{arith}
use lib.ListN.{length}
use Rattle.breakdown.proofs.PartByPart.{first_count, first-few, on-count, no-measures}
use Rattle.breakdown.proofs.Tallied.{tally-starts, tally-ready, tally-on, tally-ends, six-given}
use Rattle.breakdown.proofs.length.due_of_measures.Goals as goal

pub loop-parts-init : goal.loop-parts-init
loop-parts-init c =
    let v = c.in-Some.ensures in
    rw c.after-parts.ensures
    ((λ i h. tally-starts c.args.part.alternates v _ (c.six_first-six.ensures i h)), first_count v, first-few v)

pub six_part-on-requires : goal.six_part-on-requires
six_part-on-requires c =
    let p = c.read.ensures.part c.loop-parts-test.true in
    λ i h. rw (c.tokens-read.ensures.classes, c.tokens-read.ensures.lengths) (tally-ready c.args.part.few p _ (c.loop-parts.invariant.0 i h))

pub loop-parts-preserved : goal.loop-parts-preserved
loop-parts-preserved c =
    let p = c.read.ensures.part c.loop-parts-test.true in
    let e = c.tokens-read.ensures in
    let l = c.loop-parts.invariant in (
      (λ i h. tally-on c.args.part.few p _ (l.0 i h) (rw (e.classes, e.lengths) at (c.six_part-on.ensures i h))),
      rw (c.len-tokens.ensures, e.classes) (on-count _ _ p l.1),
      omega (arith, l.2, p.few, p.on, c.len-tokens.ensures, ap {B = ℕ} length e.classes),
    )

pub returns : goal.returns
returns c =
    let none = c.read.ensures.none c.loop-parts-test.false in
    let l = c.loop-parts.invariant in
    record {
      number = omega (arith, l.1, ap {B = ℕ} length (no-measures _ none));
      bytes = six-given _ _ (omega arith) (λ i h. c.six_end.ensures i h ∙ tally-ends (l.0 i h) none);
    }
