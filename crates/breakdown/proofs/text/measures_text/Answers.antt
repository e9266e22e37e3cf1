-- `breakdown::text::measures_text` meets its contract.
-- Assumes nothing.
use native.Mathlib.Omega.{arith}
use Rattle.text_buffer.proofs.Added as Text
use Rattle.breakdown.proofs.PartByPart.{part-tokens, on, on-text, at-end}
use Rattle.breakdown.proofs.text.measures_text.Goals as goal

pub text_part-done-requires : goal.text_part-done-requires
text_part-done-requires c =
    let l = c.loop-parts.invariant in
    let p = c.read.ensures.part c.loop-parts-test.true in
    rw (c.tokens.ensures.classes, c.tokens.ensures.lengths) (
      part-tokens l.0 p,
      l.0.run,
      omega (arith, l.0.small, c.args.part.few),
      Text.ready l.1 c.requires.0,
      record { more = _; room = rw p.tokens at (Text.room l.1 c.requires.1) },
    )

pub loop-parts-preserved : goal.loop-parts-preserved
loop-parts-preserved c =
    let l = c.loop-parts.invariant in
    let p = c.read.ensures.part c.loop-parts-test.true in
    let w = rw (c.tokens.ensures.classes, c.tokens.ensures.lengths) at c.text_part-done.ensures in
    (on l.0 p w.1, Text.on l.1 w.0.done _ (on-text l.0 p w.0.done c.text_part-done.result.run w.0.whole) w.0.wrote)

pub add_last-requires : goal.add_last-requires
add_last-requires c =
    let l = c.loop-parts.invariant in
    let e = at-end l.0 (c.read.ensures.none c.loop-parts-test.false) in
    (Text.ready l.1 c.requires.0, l.0.run.low, rw e at (Text.room l.1 c.requires.1))

pub returns : goal.returns
returns c =
    let l = c.loop-parts.invariant in
    Text.ends (rw (at-end l.0 (c.read.ensures.none c.loop-parts-test.false)) at l.1) c.add_last.ensures
