-- `breakdown::text::text_of_tokens` meets its contract.
-- Assumes nothing.
use mathlib.Core.Path.{◌≡◌}
use mathlib.Core.List.{◌++◌}
use native.Mathlib.Omega.{arith}
use Rattle.rules.specs.Slices.{paired}
use Rattle.text_buffer.specs.Runs.{run_text}
use Rattle.breakdown.specs.Forms.{text_of}
use Rattle.text_buffer.proofs.Added.{added, added-ready, added-room}
use Rattle.breakdown.proofs.PartByPart.{tokens-all}
use Rattle.breakdown.proofs.text.text_of_tokens.Goals as goal
use Rattle.breakdown.proofs.text.text_of_tokens.Goals.{After-text_part-done}

-- the text is that of the part, and of the last run or piece
whole : (c : After-text_part-done) → let a = c.args in
    text_of a.form (paired a.tokens.classes.now a.tokens.lengths.now) ≡ c.text_part-done.ensures.0.done ++ run_text c.text_part-done.result.run
whole c =
    let w = c.text_part-done.ensures in
    tokens-all c.requires.0 c.args.tokens.paired (omega (arith, c.len.ensures, c.if-len-eq0.false)) c.args.form c.first_run-first.ensures c.behind.ensures.classes c.behind.ensures.lengths
    w.0.done w.1.run w.0.whole

pub add_last-requires : goal.add_last-requires
add_last-requires c =
    let e = c.text_part-done.ensures in
    let w = e.0.wrote in
    (added-ready _ w c.requires.1, e.1.run.low, added-room _ w _ (rw (whole (goal.at.add_last-requires c).After-text_part-done) at c.requires.2))

pub returns : goal.returns
returns c = rw (whole (goal.at.returns c).After-text_part-done) (added _ c.text_part-done.ensures.0.wrote _ c.add_last.ensures)
