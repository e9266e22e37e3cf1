-- `sn_text::sn::dense_run_place` meets its contract.
-- Assumes nothing.
use Prim.Native.Nat.{◌+◌}
use mathlib.Core.Path.{◌≡◌}
use native.Mathlib.Omega.{arith}
use borrow.Author.Tests.{eq-eqb, ne_eqb}
use Rattle.sn_text.proofs.SnParts.{run-next, break-next}
use Rattle.sn_text.proofs.sn.dense_run_place.Goals as goal

pub returns-then-broken : goal.returns-then-broken
returns-then-broken c =
    let two : c.args.i + 1 + 1 ≡ c.args.i + 2 = omega arith in
    rw (c.gap_of.ensures, eq-eqb _ _ c.if-broken.true, two) (break-next c.args.tokens.paired c.requires c.if-broken.true)

pub returns-else-broken : goal.returns-else-broken
returns-else-broken c = rw (c.gap_of.ensures, ne_eqb _ _ c.if-broken.false) (run-next c.args.tokens.paired c.requires c.if-broken.false)
