-- Demand 3, first half. "Take any two charts whose measures fall one by one in the same classes, and give them like lent slices and settings.
-- Every call that makes counts, segments, tokens or texts of a chart then gives both the same answers and bytes, refusals included."
-- A call stands here by its promise: whatever it answers and leaves in the lent slices (₁ for the chart a, ₂ for the chart b) meets it.
-- Assumes nothing.
use Rattle.std.specs.Prelude.{ℕ, ◌<◌, ◌≡◌, List}
use Rattle.number.specs.declared.Written.{Written}
use Rattle.rules.specs.Demand.{SameClasses}
use Rattle.rules.specs.declared.Kind.{Kind}
use Rattle.rules.specs.declared.StreamSegment.{StreamSegment}
use Rattle.rules.specs.declared.ViewToken.{ViewToken}
use Rattle.counts.specs.Promises.{counts_answer, share_answer}
use Rattle.counts_line.specs.Promises.{BoardCounts}
use Rattle.alike.specs.Promises.{alike_answer}
use Rattle.token_view.specs.Promises.{nth_answer}
use Rattle.token_view.specs.Steps.{Stepped}
use Rattle.segments.specs.Promises.{Segmented, nth_segment}
use Rattle.segments.specs.declared.SegmentsAnswer.{SegmentsAnswer}
use Rattle.chart_texts.specs.Promises.{Breakdown, Breakdowns}
use Rattle.chart_texts.specs.declared.ThreeWritten.{ThreeWritten}
use Rattle.label.specs.Promises.{Label}
use Rattle.label.specs.declared.LabelWritten.{LabelWritten}
use Rattle.stream_outputs.specs.Promises.{Outputs}
use Rattle.stream_outputs.specs.declared.StreamOutputs.{StreamOutputs}
use Rattle.record.specs.Record.{fields_of}
use Rattle.record.specs.Alike.{ending, Alike}
use Rattle.record.specs.Promises.{ReadRecord}
use Rattle.record.specs.declared.RecordAnswer.{RecordAnswer}
use Rattle.sheet_lines.specs.Sheet.{Printed}
use Rattle.sheet_lines.specs.declared.Sheet.{Sheet}

-- the calls on a chart given as a density slice
pub record OfCharts (a b : List ℕ) : Type 0 where
  -- compute_stream_counts, share, segment_at and nth_token lend no slice but the chart's own
  pub counts : counts_answer a ≡ counts_answer b
  pub share : share_answer a ≡ share_answer b
  pub segment_at : (k : ℕ) → nth_segment k a ≡ nth_segment k b
  pub nth_token : (k : ℕ) → nth_answer k a ≡ nth_answer k b
  -- stream_sequences
  pub segments : (old new₁ new₂ : List StreamSegment) (r₁ r₂ : SegmentsAnswer)
      → Segmented a old new₁ r₁ → Segmented b old new₂ r₂ → (r₁ ≡ r₂) × (new₁ ≡ new₂)
  -- stream_tokens and next_token: the number that the view opens with, and every step, each from the view that the step before left
  pub token_view : (n no₁ no₂ : ℕ) (v₁ v₂ : ℕ → List ℕ) (t₁ t₂ : ℕ → ViewToken)
      → Stepped a n no₁ v₁ t₁ → Stepped b n no₂ v₂ t₂ → (no₁ ≡ no₂) × ((k : ℕ) → k < n → t₁ k ≡ t₂ k)
  -- generate_breakdown and stream_breakdown, by mode and level
  pub breakdown : (k : Kind) (old new₁ new₂ : List ℕ) (r₁ r₂ : Written)
      → Breakdown k a old new₁ r₁ → Breakdown k b old new₂ r₂ → (r₁ ≡ r₂) × (new₁ ≡ new₂)
  -- generate_breakdowns and stream_breakdowns
  pub breakdowns : (ks : List Kind) (old new₁ new₂ : List ℕ) (r₁ r₂ : ThreeWritten)
      → Breakdowns ks a old new₁ r₁ → Breakdowns ks b old new₂ r₂ → (r₁ ≡ r₂) × (new₁ ≡ new₂)
  -- board_counts
  pub board_counts : (old new₁ new₂ : List ℕ) (r₁ r₂ : Written) → BoardCounts a old new₁ r₁ → BoardCounts b old new₂ r₂ → (r₁ ≡ r₂) × (new₁ ≡ new₂)
  -- compute_stream_outputs
  pub outputs : (cs cs₁ cs₂ ns ns₁ ns₂ old new₁ new₂ : List ℕ) (r₁ r₂ : StreamOutputs)
      → Outputs a cs cs₁ ns ns₁ old new₁ r₁ → Outputs b cs cs₂ ns ns₂ old new₂ r₂
      → (r₁ ≡ r₂) × (cs₁ ≡ cs₂) × (ns₁ ≡ ns₂) × (new₁ ≡ new₂)
  -- label
  pub label : (width : ℕ) (old new₁ new₂ : List ℕ) (r₁ r₂ : LabelWritten)
      → Label width a old new₁ r₁ → Label width b old new₂ r₂ → (r₁ ≡ r₂) × (new₁ ≡ new₂)

pub record FirstHalf : Type 0 where
  pub charts : (a b : List ℕ) → SameClasses a b → OfCharts a b
  -- alike takes two charts
  pub alike : (a b c d : List ℕ) → SameClasses a b → SameClasses c d → alike_answer a c ≡ alike_answer b d
  -- sheet: records of the same length in bytes, name, tags and field lengths, and equal classes at the densities of their whole fields
  pub sheet : (a b : List ℕ) (r₁ r₂ : Sheet) → Alike a b → Printed a r₁ → Printed b r₂ → r₁ ≡ r₂
  -- such records are cut in the same way, if they are cut
  pub cut : (a b : List ℕ) → Alike a b → ending (fields_of a) ≡ ending (fields_of b)
  -- read_chart_record gives the same answer for both; the densities that it writes are each chart's own
  pub chart_record : (a b old new₁ new₂ : List ℕ) (r₁ r₂ : RecordAnswer)
      → Alike a b → ReadRecord a old new₁ r₁ → ReadRecord b old new₂ r₂ → r₁ ≡ r₂
