-- `record::questions::is_name` meets its contract.
-- Assumes nothing.
use Prim.Native.Nat.{◌≤◌}
use mathlib.Core.Path.{◌∙◌}
use lib.ListN.{length}
use borrow.Author.Tests.{le-leb}
use Rattle.std.proofs.Common.{rules, tests}
use Rattle.std.proofs.lemmas.Iterator.{YieldsList-from_slice}
use Rattle.std.proofs.lemmas.Iterator.Search.{all_from_yields_List}
use Rattle.record.proofs.Naming.{plain, all-plain}
use Rattle.record.proofs.questions.is_name.Goals as goal

pub returns-then-contains : goal.returns-then-contains
returns-then-contains c =
    let p = c.args.payload.now in
    let all = all_from_yields_List plain _ _ c.all.result c.all.ensures.ran (YieldsList-from_slice p cc) (λ x b q k. search (rules, tests)) in
    let some : 1 ≤ length c.args.payload.now = search (rules, tests) in
    let few : length c.args.payload.now ≤ 64 = search (rules, tests) in
    rw (le-leb 1 (length c.args.payload.now) some, le-leb (length c.args.payload.now) 64 few) (all ∙ all-plain p)
