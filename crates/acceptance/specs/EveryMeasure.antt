-- Document 02, A.6, of every call that answers or writes counts and keeps its promise. "Over every accepted chart, the four run counts, sn_breaks, lead and
-- tail add up to the number of measures"; what lead and tail are is in the same record (`AllCounted`).
-- Assumes nothing.
use Rattle.std.specs.Prelude.{ℕ, ◌≡◌, List, take}
use Rattle.number.specs.declared.Written.{Written}
use Rattle.rules.specs.Chart.{classes, counts}
use Rattle.counts.specs.Promises.{counts_answer}
use Rattle.counts.specs.Laws.{AllCounted}
use Rattle.counts_line.specs.CountsLine.{line, counts_line, board_line}
use Rattle.counts_line.specs.Promises.{BoardCounts}
use Rattle.stream_outputs.specs.Promises.{Outputs}
use Rattle.stream_outputs.specs.declared.StreamOutputs.{StreamOutputs}
use Rattle.sheet_lines.specs.Sheet.{sheet_no, chart_of, Printed}
use Rattle.sheet_lines.specs.declared.Sheet.{Sheet}
use Rattle.acceptance.specs.SecondHalf.{line_at}

pub record EveryMeasure : Type 0 where
  -- compute_stream_outputs
  pub outputs : (m cs cs' ns ns' old new : List ℕ) (r : StreamOutputs) → Outputs m cs cs' ns ns' old new r → r.refused ≡ 0
      → AllCounted m r.counts
  -- print_sheet: the second line, after the name
  pub sheet : (input : List ℕ) (r : Sheet) → Printed input r → sheet_no input ≡ 0
      → let c = counts (classes (chart_of input)) in
      (line_at 1 (take r.length r.bytes) ≡ counts_line c) × AllCounted (chart_of input) c
  -- board_counts: the line of such counts, at width 7
  pub board : (m old new : List ℕ) (r : Written) → BoardCounts m old new r → r.refused ≡ 0
      → let c = counts (classes m) in
      (take r.length new ≡ line (board_line c)) × AllCounted m c
  -- compute_stream_counts
  pub counts : (m : List ℕ) → (counts_answer m).refused ≡ 0 → AllCounted m (counts_answer m).counts
