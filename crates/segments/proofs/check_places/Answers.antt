-- `segments::check_places` meets its contract.
-- Assumes nothing.
use Rattle.std.proofs.Common.{◌≤◌, rules, arith, ap, length}
use Rattle.std.proofs.lemmas.Iterator.Consumers.{count_from_yields_List, YieldsList-from_first}
use borrow.Author.Tests.{le-leb}
use Rattle.rules.specs.Chart.{classes}
use Rattle.rules.specs.Calls.{segments}
use Rattle.segments.specs.Steps.{segments_from}
use Rattle.segments.specs.declared.steps.Segments.{Segments}
use Rattle.segments.proofs.Stretches.{segments-few}
use Rattle.segments.proofs.check_places.Goals as goal
use Rattle.segments.proofs.check_places.Goals.{else-out-measures-via-then-out-measures+else-out-count, else-out-measures-via-else-out-measures}

pub count-requires-clause-fits : goal.count-requires-clause-fits
count-requires-clause-fits c = let few = segments-few c.args.measures.now in let e = ap length c.new.ensures in search rules

pub returns : goal.returns
returns c =
    let ss = segments (classes c.args.measures.now) in
    let few = segments-few c.args.measures.now in
    let enough : length ss ≤ length c.args.out.now =
    elim c.else-out-measures.branch [
      | else-out-measures-via-then-out-measures+else-out-count w ↦
          omega (
            arith,
            count_from_yields_List w.new.result w.count.result w.count.ensures.ran
                (YieldsList-from_first (λ s. s) (λ (s : Segments). segments_from s.measures.now s.at) ss w.new.ensures),
          )
      | else-out-measures-via-else-out-measures w ↦ omega arith
    ] in
    rw (le-leb _ _ enough)
