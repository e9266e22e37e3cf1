-- Demand 3, second half. "Now take any two accepted charts, however they differ. Each of the seven texts, written as document 01 has it and by
-- whichever call, is the same for both exactly when document 01's reduced list for that text is the same for both."
-- Assumes nothing.
use Rattle.std.specs.Prelude.{ℕ, zero, suc, ◌≡◌, ◌↔◌, cond, List, [], ◌∷◌, eqb, take, drop}
use Rattle.number.specs.declared.Written.{Written}
use Rattle.rules.specs.Chart.{classes}
use Rattle.rules.specs.Reduced.{reduced}
use Rattle.rules.specs.declared.Kind.{Kind}
use Rattle.rules.specs.declared.Kind.TheVariants.{Standard as standard}
use Rattle.rules.specs.Texts.{pass_kinds}
use Rattle.rules.specs.Calls.{level_number}
use Rattle.rules.specs.Demand.{SameStreams}
use Rattle.rules.specs.declared.StreamBreakdownLevel.{StreamBreakdownLevel}
use Rattle.rules.specs.declared.StreamBreakdownLevel.TheVariants as Level
use Rattle.sn_to_standard.specs.Promises.{SnToStandard}
use Rattle.sn_to_standard.specs.Laws.{sn_text}
use Rattle.chart_texts.specs.Promises.{Breakdown, Breakdowns}
use Rattle.chart_texts.specs.declared.ThreeWritten.{ThreeWritten}
use Rattle.label.specs.Promises.{Label}
use Rattle.label.specs.declared.LabelWritten.{LabelWritten}
use Rattle.stream_outputs.specs.Promises.{Outputs}
use Rattle.stream_outputs.specs.declared.StreamOutputs.{StreamOutputs}
use Rattle.sheet_lines.specs.Sheet.{chart_of, sheet_no, sheet_kinds, Printed}
use Rattle.sheet_lines.specs.declared.Sheet.{Sheet}

-- text number i of several that stand end to end, by their lengths
abbrev pub nth : List ℕ → ℕ → List ℕ → List ℕ
nth [] i bytes = []
nth (n ∷ ns) zero bytes = take n bytes
nth (n ∷ ns) (suc i) bytes = nth ns i (drop n bytes)

-- the kind number i of some
abbrev pub KindAt : List Kind → ℕ → Kind → Type 0
KindAt [] i k = ⊥
KindAt (k ∷ ks) zero k' = k ≡ k'
KindAt (k ∷ ks) (suc i) k' = KindAt ks i k'

-- up to the first 0A, and what follows it
abbrev pub first_line : List ℕ → List ℕ
first_line [] = []
first_line (b ∷ bytes) = cond (eqb b 10) [] (b ∷ first_line bytes)

abbrev pub after_line : List ℕ → List ℕ
after_line [] = []
after_line (b ∷ bytes) = cond (eqb b 10) bytes (after_line bytes)

-- line number i, without its 0A
abbrev pub line_at : ℕ → List ℕ → List ℕ
line_at zero bytes = first_line bytes
line_at (suc i) bytes = line_at i (after_line bytes)

-- `TextWritten k m text`: an accepted call wrote the text of kind k of the chart m as these bytes
pub data TextWritten : Kind → List ℕ → List ℕ → Type 0 where
  -- generate_breakdown, stream_breakdown
  single : (k : Kind) (m old new : List ℕ) (r : Written) → Breakdown k m old new r → r.refused ≡ 0 → TextWritten k m (take r.length new)
  -- generate_breakdowns, stream_breakdowns
  three : (ks : List Kind) (i : ℕ) (k : Kind) (m old new : List ℕ) (r : ThreeWritten) → KindAt ks i k → Breakdowns ks m old new r → r.refused ≡ 0
      → TextWritten k m (nth r.lengths i new)
  -- compute_stream_outputs
  pass : (i : ℕ) (k : Kind) (m cs cs' ns ns' old new : List ℕ) (r : StreamOutputs) → KindAt pass_kinds i k → Outputs m cs cs' ns ns' old new r → r.refused ≡ 0
      → TextWritten k m (nth r.lengths i new)
  -- label, at the level that it answers
  label : (width : ℕ) (l : StreamBreakdownLevel) (m old new : List ℕ) (r : LabelWritten) → Label width m old new r → r.refused ≡ 0 → r.level ≡ level_number l
      → TextWritten (standard l) m (take r.length new)
  -- sn_to_standard, of the chart's SN detailed text
  converted : (m old new : List ℕ) (r : Written) → SnToStandard (sn_text m) old new r → r.refused ≡ 0
      → TextWritten (standard Level.Detailed) m (take r.length new)
  -- sheet: the texts are its lines from the third on
  sheet : (i : ℕ) (k : Kind) (input : List ℕ) (r : Sheet) → KindAt sheet_kinds i k → Printed input r → sheet_no input ≡ 0
      → TextWritten k (chart_of input) (line_at (suc (suc i)) (take r.length r.bytes))

pub record SecondHalf : Type 0 where
  pub exactly : (k : Kind) (a b x y : List ℕ) → TextWritten k a x → TextWritten k b y → (x ≡ y) ↔ (reduced k (classes a) ≡ reduced k (classes b))
  -- "For the standard detailed text that means: neither has a stream measure, or their active parts are equally long and have stream measures
  -- at the same places, counted from the part's first measure."
  pub detailed : (a b x y : List ℕ) → TextWritten (standard Level.Detailed) a x → TextWritten (standard Level.Detailed) b y
      → (x ≡ y) ↔ SameStreams (classes a) (classes b)
