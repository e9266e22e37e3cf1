-- Document 02, A.6, holds: every measure of an accepted chart is in the counts.
-- Assumes nothing.
use mathlib.Core.Path.{ap, ◌∙◌}
use lib.Seq.{take-append_seam}
use Rattle.number.proofs.Questions.{text-accepted}
use Rattle.rules.specs.Chart.{classes, counts}
use Rattle.counts.proofs.Laws.{all-counted}
use Rattle.stream_outputs.specs.declared.StreamOutputs.{StreamOutputs}
use Rattle.sheet_lines.specs.Sheet.{text_lines, sheet_kinds, chart_of}
use Rattle.counts_line.specs.Promises.{board_text}
use Rattle.counts_line.proofs.Lines.{counts-line}
use Rattle.acceptance.specs.SecondHalf.{first_line}
use Rattle.acceptance.specs.EveryMeasure.{EveryMeasure}
use Rattle.acceptance.proofs.Accepted.{all-accepted}
use Rattle.acceptance.proofs.Written.{first-line, after-name}

pub every-measure : EveryMeasure
unfolding board_text
every-measure =
    record {
      outputs = λ m cs cs' ns ns' old new r p h.
          rw (ap (λ (w : StreamOutputs). w.counts) (all-accepted.outputs m cs cs' ns ns' old new r p h).0) (all-counted m);
      sheet = λ input r p h.
          let m = chart_of input in
          (ap first_line (after-name input r p h) ∙ first-line (text_lines sheet_kinds m) (counts-line 0 (counts (classes m))), all-counted m);
      board = λ m old new r p h.
          let w = text-accepted _ (board_text m) old new r p h in
          (rw (w.1, w.2) (take-append_seam (board_text m) _), all-counted m);
      counts = λ m h. rw (all-accepted.counts m h) (all-counted m);
    }
