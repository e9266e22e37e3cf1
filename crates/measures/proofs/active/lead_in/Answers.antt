-- `measures::active::lead_in` meets its contract: what is skipped are breaks, and after them the first stream measure is looked for.
-- Assumes nothing.
use Rattle.std.proofs.Common.{◌+◌, ◌≤◌, ◌<◌, drop, ◌∙◌, rules, arith}
use Rattle.std.proofs.lemmas.Iterator.{YieldsList-from_slice, IsFirst-from_position}
use borrow.Author.Tests.{tests}
use Rattle.measures.specs.Active.{LedIn}
use Rattle.measures.proofs.Part.{rest-drop, led-after}
use Rattle.measures.proofs.active.lead_in.Goals as goal
use Rattle.measures.proofs.active.lead_in.Goals.{After-unwrap_or}

led : (c : After-unwrap_or) → LedIn c.args.m.now (c.skip-skipped.result + c.unwrap_or.result)
led c =
    let m = c.args.m.now in
    let s = c.skip-skipped.result in
    let found = IsFirst-from_position _ _ _ (λ d. 16 ≤ d) (λ d. d < 16) c.position.ensures.ran (YieldsList-from_slice (drop s m) (c.iter.ensures.rest ∙ rest-drop m s))
    (λ x q k. search (rules, tests)) (λ x q k. search (rules, tests)) in
    rw (c.unwrap_or.ensures, rest-drop m s) (led-after m s c.skip-skipped.ensures c.position.result found)

pub overflow_add-result : goal.overflow_add-result
overflow_add-result c = omega (arith, (led c).within)

pub returns : goal.returns
returns c = led c
