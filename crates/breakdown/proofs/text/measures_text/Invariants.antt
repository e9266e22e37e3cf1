-- `breakdown::text::measures_text` meets its contract.
-- Assumes nothing.
use lib.ListN.{length}
use Rattle.rules.specs.Chart.{classes, runs}
use Rattle.breakdown.specs.Forms.{text_of, open_text}
use Rattle.text_buffer.specs.Buffer.{goes_on}
use Rattle.text_buffer.proofs.Added as Text
use Rattle.breakdown.proofs.PartByPart.{Along}
use Rattle.breakdown.proofs.text.measures_text.Given as goal

abbrev pub invariant-loop-parts : goal.invariant-loop-parts
invariant-loop-parts l =
    let m = l.fn.part.measures.now in
    let rest = l.parts.rest.now in
    Along m l.form l.done.run rest
    × Text.Begun l.initial.buf l.initial.out (goes_on l.at 0) (text_of l.form (runs (classes m))) (open_text l.form l.done.run (runs (classes rest)))
    l.buf l.out l.done.to

abbrev pub decreases-loop-parts : goal.decreases-loop-parts
decreases-loop-parts l = length l.parts.rest.now
