-- `segments::segment_at` meets its contract.
-- Assumes nothing.
use Rattle.std.proofs.Common.{rules, sym, ◌∙◌}
use Rattle.std.proofs.lemmas.Iterator.Adapters.{option_map_id}
use Rattle.std.proofs.lemmas.Iterator.Consumers.{nth_from_yields_List, YieldsList-from_first}
use Rattle.segments.specs.Promises.{nth_segment}
use Rattle.segments.specs.Steps.{segments_from}
use Rattle.segments.specs.declared.steps.Segments.{Segments}
use Rattle.segments.proofs.Written.{nth-is}
use Rattle.segments.proofs.segment_at.Goals as goal

pub returns-in_err-measures : goal.returns-in_err-measures
unfolding nth_segment
returns-in_err-measures c = search rules

pub returns : goal.returns
unfolding nth_segment
returns c =
    let nth =
    nth_from_yields_List c.nth.result c.nth.new.self c.args.k c.nth.ensures.ran
    (YieldsList-from_first (λ s. s) (λ (s : Segments). segments_from s.measures.now s.at) _ c.new-2.ensures) in
    rw (sym (option_map_id c.nth.result) ∙ nth, c.in_ok-measures.ensures.chart, ← c.in_ok-measures.ensures.no) (nth-is c.args.k _)
