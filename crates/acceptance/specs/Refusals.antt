-- Demand 1. "A call first refuses: too many measures, too short a lent slice, or another item of document 01's list, each by its number and with
-- every lent slice untouched. It then accepts all the rest." No exported call has a `requires`; each promise says by which number the call
-- refuses, the first no to the questions that concern it, and by this record a call that does not carry 0 answers only that number and
-- leaves every lent slice as it was.
-- Assumes nothing.
use Rattle.std.specs.Prelude.{ℕ, ◌≡◌, ◌≢◌, false, List, [], replicate}
use Rattle.number.specs.Questions.{OneText}
use Rattle.number.specs.declared.Written.{Written}
use Rattle.rules.specs.Chart.{no_counts}
use Rattle.rules.specs.declared.Kind.{Kind}
use Rattle.rules.specs.declared.StreamSegment.{StreamSegment}
use Rattle.counts.specs.Promises.{counts_answer, share_answer}
use Rattle.alike.specs.Promises.{alike_answer}
use Rattle.token_view.specs.Promises.{Opening, no_token, nth_answer}
use Rattle.segments.specs.Promises.{Segmented, no_segment, nth_segment}
use Rattle.segments.specs.declared.SegmentsAnswer.{SegmentsAnswer}
use Rattle.record.specs.Promises.{ReadRecord}
use Rattle.record.specs.declared.RecordAnswer.{RecordAnswer}
use Rattle.note_rows.specs.Promises.{ReadNoteRows}
use Rattle.note_rows.specs.declared.RowsAnswer.{RowsAnswer}
use Rattle.chart_texts.specs.Promises.{Breakdowns}
use Rattle.chart_texts.specs.declared.ThreeWritten.{ThreeWritten}
use Rattle.label.specs.Promises.{Label}
use Rattle.label.specs.declared.LabelWritten.{LabelWritten}
use Rattle.stream_outputs.specs.Promises.{Outputs}
use Rattle.stream_outputs.specs.declared.StreamOutputs.{StreamOutputs}

pub record Refusals : Type 0 where
  -- push_u64, format_run_symbol, generate_breakdown, stream_breakdown, sn_to_standard, board_counts: `q` is the first no
  pub one_text : (q : ℕ) (text old new : List ℕ) (r : Written) → OneText q text old new r → r.refused ≢ 0
      → (r ≡ record { refused = q; length = 0 }) × (new ≡ old)
  -- generate_breakdowns, stream_breakdowns
  pub breakdowns : (ks : List Kind) (m old new : List ℕ) (r : ThreeWritten) → Breakdowns ks m old new r → r.refused ≢ 0
      → (r.lengths ≡ replicate 3 0) × (new ≡ old)
  -- compute_stream_outputs
  pub outputs : (m cs cs' ns ns' old new : List ℕ) (r : StreamOutputs) → Outputs m cs cs' ns ns' old new r → r.refused ≢ 0
      → (r ≡ record { refused = r.refused; counts = no_counts; tokens = 0; lengths = replicate 6 0 }) × (cs' ≡ cs) × (ns' ≡ ns) × (new ≡ old)
  -- label
  pub label : (width : ℕ) (m old new : List ℕ) (r : LabelWritten) → Label width m old new r → r.refused ≢ 0
      → (r ≡ record { refused = r.refused; level = 0; length = 0 }) × (new ≡ old)
  -- stream_sequences
  pub segments : (m : List ℕ) (old new : List StreamSegment) (r : SegmentsAnswer) → Segmented m old new r → r.refused ≢ 0
      → (r ≡ record { refused = r.refused; count = 0 }) × (new ≡ old)
  -- read_chart_record
  pub chart_record : (bytes old new : List ℕ) (r : RecordAnswer) → ReadRecord bytes old new r → r.refused ≢ 0
      → (r ≡ record { refused = r.refused; measures = 0; name_start = 0; name_length = 0 }) × (new ≡ old)
  -- read_note_rows
  pub note_rows : (text old new : List ℕ) (r : RowsAnswer) → ReadNoteRows text old new r → r.refused ≢ 0
      → (r ≡ record { refused = r.refused; measures = 0 }) × (new ≡ old)
  -- stream_tokens: a refused view is empty
  pub view : (m : List ℕ) (no : ℕ) (v : List ℕ) → Opening m no v → no ≢ 0 → v ≡ []
  -- calls that lend no slice but the chart's own
  pub counts : (m : List ℕ) → (counts_answer m).refused ≢ 0 → (counts_answer m).counts ≡ no_counts
  pub share : (m : List ℕ) → (share_answer m).refused ≢ 0 → (share_answer m).share ≡ 0
  pub alike : (a b : List ℕ) → (alike_answer a b).refused ≢ 0 → (alike_answer a b).alike ≡ false
  pub nth_token : (k : ℕ) (m : List ℕ) → (nth_answer k m).refused ≢ 0 → (nth_answer k m).token ≡ no_token
  pub segment_at : (k : ℕ) (m : List ℕ) → (nth_segment k m).refused ≢ 0 → ((nth_segment k m).found ≡ false) × ((nth_segment k m).segment ≡ no_segment)
