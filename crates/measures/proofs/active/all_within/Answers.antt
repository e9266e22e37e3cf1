-- `measures::active::all_within` meets its contract: so far all measures are within the bounds, or `all` is false.
-- Assumes nothing.
use Rattle.std.proofs.Common.{◌≡◌, length, arith}
use mathlib.Core.Bool.{and-eq-true_iff}
use Rattle.measures.proofs.Stretch.{none, one, joined}
use Rattle.measures.proofs.active.all_within.Goals as goal

pub loop-d-init : goal.loop-d-init
loop-d-init c = λ e. none _ _ _ 0 (omega arith)

pub loop-d-preserved : goal.loop-d-preserved
loop-d-preserved c =
    λ e.
    let a = c.args in
    let both = (and-eq-true_iff _ _).0 e in
    joined _ _ _ (c.loop-d.invariant both.0) (one a.block.now a.lo a.more _ c.loop-d-test.true (omega (arith, c.type_inv.block c.loop-d.d-index)) c.requires both.1)

pub returns : goal.returns
returns c =
    let end : c.loop-d.d-index ≡ length c.args.block.now = omega arith in
    rw end at c.loop-d.invariant
