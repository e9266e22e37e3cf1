-- Demand 2. Counts, segments, tokens and texts are "proved equal to document 01's rules": what an accepted call, one that carries 0, answers
-- and leaves in every lent slice, left-over places too. The rules are those of rules/specs; the paper's charts are computed by them in
-- rules/proofs/Table.
-- Assumes nothing.
use Rattle.std.specs.Prelude.{ℕ, ◌≤◌, ◌≡◌, ◌↔◌, true, List, map, length, take, drop}
use Rattle.number.specs.Questions.{filled, OneText}
use Rattle.number.specs.declared.Written.{Written}
use Rattle.rules.specs.Chart.{class_of, classes, class_number, active, active_part, tokens, class, len, counts}
use Rattle.rules.specs.declared.Kind.{Kind}
use Rattle.rules.specs.declared.Kind.TheVariants.{Standard as standard}
use Rattle.rules.specs.Texts.{text, pass_kinds, end_to_end, lengths_of}
use Rattle.rules.specs.Calls.{segments, share, step_at, after_step, label_choice}
use Rattle.rules.specs.declared.RunDensity.{RunDensity}
use Rattle.rules.specs.declared.StreamSegment.{StreamSegment}
use Rattle.rules.specs.declared.ViewToken.{ViewToken}
use Rattle.rules.specs.declared.StreamBreakdownLevel.TheVariants as Level
use Rattle.counts.specs.Promises.{counts_answer, share_answer}
use Rattle.alike.specs.Promises.{alike_answer}
use Rattle.token_view.specs.Promises.{Opening, Step, nth_answer}
use Rattle.segments.specs.Promises.{Segmented, first_segment, nth_segment}
use Rattle.segments.specs.declared.SegmentsAnswer.{SegmentsAnswer}
use Rattle.record.specs.Record.{fields_of, densities, name_of}
use Rattle.record.specs.Promises.{ReadRecord}
use Rattle.record.specs.declared.RecordAnswer.{RecordAnswer}
use Rattle.note_rows.specs.NoteRows.{row_densities}
use Rattle.note_rows.specs.Promises.{ReadNoteRows}
use Rattle.note_rows.specs.declared.RowsAnswer.{RowsAnswer}
use Rattle.chart_texts.specs.Promises.{Breakdowns}
use Rattle.chart_texts.specs.declared.ThreeWritten.{ThreeWritten}
use Rattle.label.specs.Promises.{label_text, label_level, Label, pair_choice}
use Rattle.label.specs.declared.LabelWritten.{LabelWritten}
use Rattle.stream_outputs.specs.Promises.{Outputs}
use Rattle.stream_outputs.specs.declared.StreamOutputs.{StreamOutputs}
use Rattle.sheet_lines.specs.Sheet.{sheet_bytes, Printed}
use Rattle.sheet_lines.specs.declared.Sheet.{Sheet}

pub record Accepted : Type 0 where
  -- push_u64, format_run_symbol, generate_breakdown, stream_breakdown, sn_to_standard, board_counts: the text that is due
  pub one_text : (q : ℕ) (text old new : List ℕ) (r : Written) → OneText q text old new r → r.refused ≡ 0
      → (r.length ≡ length text) × (new ≡ filled old text)
  -- generate_breakdowns, stream_breakdowns
  pub breakdowns : (ks : List Kind) (m old new : List ℕ) (r : ThreeWritten) → Breakdowns ks m old new r → r.refused ≡ 0
      → (r.lengths ≡ lengths_of ks m) × (new ≡ filled old (end_to_end ks m))
  -- compute_stream_outputs: counts, number of tokens, lengths; both token slices; the text slice
  pub outputs : (m cs cs' ns ns' old new : List ℕ) (r : StreamOutputs) → Outputs m cs cs' ns ns' old new r → r.refused ≡ 0
      → (r ≡ record { refused = 0; counts = counts (classes m); tokens = length (tokens (classes m)); lengths = lengths_of pass_kinds m })
      × (cs' ≡ filled cs (map class (tokens (classes m))))
      × (ns' ≡ filled ns (map len (tokens (classes m))))
      × (new ≡ filled old (end_to_end pass_kinds m))
  -- label
  pub label : (width : ℕ) (m old new : List ℕ) (r : LabelWritten) → Label width m old new r → r.refused ≡ 0
      → (r ≡ record { refused = 0; level = label_level (label_choice width m); length = length (label_text (label_choice width m) m) })
      × (new ≡ filled old (label_text (label_choice width m) m))
  -- segment_at, stream_sequences
  pub segment_at : (k : ℕ) (m : List ℕ) → (nth_segment k m).refused ≡ 0 → nth_segment k m ≡ first_segment (drop k (segments (classes m)))
  pub segments : (m : List ℕ) (old new : List StreamSegment) (r : SegmentsAnswer) → Segmented m old new r → r.refused ≡ 0
      → (r.count ≡ length (segments (classes m))) × (new ≡ filled old (segments (classes m)))
  -- read_chart_record
  pub chart_record : (bytes old new : List ℕ) (r : RecordAnswer) → ReadRecord bytes old new r → r.refused ≡ 0
      → (r ≡ record { refused = 0; measures = length (densities (fields_of bytes)); name_start = 3; name_length = length (name_of (fields_of bytes)) })
      × (new ≡ filled old (densities (fields_of bytes)))
  -- read_note_rows
  pub note_rows : (text old new : List ℕ) (r : RowsAnswer) → ReadNoteRows text old new r → r.refused ≡ 0
      → (r ≡ record { refused = 0; measures = length (row_densities text) }) × (new ≡ filled old (row_densities text))
  -- stream_tokens, and next_token on a view of the domain
  pub view : (m : List ℕ) (no : ℕ) (v : List ℕ) → Opening m no v → no ≡ 0 → v ≡ m
  pub step : (v : List ℕ) (said : ViewToken) (next : List ℕ) → Step v said next → length v ≤ 1048576 → (said ≡ step_at 0 v) × (next ≡ after_step v)
  -- calls that lend no slice but the chart's own
  pub counts : (m : List ℕ) → (counts_answer m).refused ≡ 0 → (counts_answer m).counts ≡ counts (classes m)
  pub share : (m : List ℕ) → (share_answer m).refused ≡ 0 → ((share_answer m).share ≡ share (classes m)) × (share (classes m) ≤ 10000)
  pub alike : (a b : List ℕ) → (alike_answer a b).refused ≡ 0
      → ((alike_answer a b).alike ≡ true) ↔ (text (standard Level.Detailed) a ≡ text (standard Level.Detailed) b)
  pub nth_token : (k : ℕ) (m : List ℕ) → (nth_answer k m).refused ≡ 0 → (nth_answer k m).token ≡ step_at k m
  -- print_sheet: the bytes to print
  pub sheet : (input : List ℕ) (r : Sheet) → Printed input r → take r.length r.bytes ≡ sheet_bytes input
  -- calls that no question concerns: categorize_measure_density (the number leaves one class), active_range, label_pair
  pub class : (d : ℕ) (r s : RunDensity) → class_number r ≡ class_of d → class_number s ≡ class_of d → r ≡ s
  pub active_range : (m : List ℕ) → classes (active_part m) ≡ active (classes m)
  pub pair : (first second : List ℕ) (width : ℕ) → length (pair_choice first second width) ≤ width
