-- `sn_text::sn::run_place` meets its contract.
-- Assumes nothing.
use Prim.Native.Nat.{◌+◌}
use mathlib.Core.Path.{◌≡◌}
use native.Mathlib.Omega.{arith}
use Rattle.sn_text.proofs.SnParts.{run-next, break-next}
use Rattle.sn_text.proofs.sn.run_place.Goals as goal

pub returns-then-tokens-i-eq0 : goal.returns-then-tokens-i-eq0
returns-then-tokens-i-eq0 c =
    let two : c.args.i + 1 + 1 ≡ c.args.i + 2 = omega arith in
    rw two (break-next c.args.tokens.paired c.requires c.if-tokens-i-eq0.true)

pub returns : goal.returns
returns c = run-next c.args.tokens.paired c.requires c.if-tokens-i-eq0.false
