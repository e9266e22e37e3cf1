-- `Spaced`'s `fmt` writes what it says: each turn writes one more element after a space.
-- Assumes nothing.
use Rattle.std.proofs.Common.{[], ◌∷◌, Some, Ok, take}
use Rattle.std.proofs.Output.{displays_on_IsOk_append, displays_on_ok_of_eq}
use Rattle.std.specs.Fmt.{◌++?◌}
use Rattle.chart_list.specs.Line.{spaced}
use Rattle.chart_list.proofs.Spaced.{spaced-take}
use Rattle.chart_list.proofs.line.SpacedDisplay.fmt.Goals as goal

pub loop-number-preserved : goal.loop-number-preserved
loop-number-preserved g c =
    let took = g.W.Write.write_str_gives in
    let f = c.args.f.now in
    let now = c.loop-number.f in
    let new = c.write.new.self in
    let text = g.T.Display.output in
    let xs = c.args.self.now.0.now in
    let i = c.loop-number.number-index in
    let x = c.number-item.result in
    let so_far = spaced text (take i xs) in
    let more = Some (32 ∷ []) ++? text x in
    displays_on_ok_of_eq took f new (Ok tt) (so_far ++? more) _ (spaced-take text xs i x c.loop-number-test.true c.number-item.is)
    (displays_on_IsOk_append took f now new (Ok tt) (Ok tt) so_far more (λ e. e) c.loop-number.invariant c.in_ok-write.ensures.writes)
