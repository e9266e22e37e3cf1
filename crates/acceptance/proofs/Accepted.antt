-- Demand 2 holds: what a promise says of an accepted call.
-- Assumes nothing.
use Prim.Native.Nat.{ℕ, zero, suc, ◌≤◌}
use mathlib.Core.Path.{◌≡◌, refl, sym, ap, ◌∙◌}
use mathlib.Core.Bool.{false}
use mathlib.Core.List.{List, [], ◌∷◌}
use native.Mathlib.Omega.{arith}
use lib.Dec.{leb}
use lib.ListN.{length, replicate}
use lib.Seq.{take-append_seam}
use borrow.Author.Tests.{leb-true}
use Rattle.number.specs.Questions.{first_no, accepted}
use Rattle.number.proofs.Split.{split}
use Rattle.number.proofs.Questions.{accepted-is as kept, text-accepted}
use Rattle.rules.specs.Bytes.{same_bytes}
use Rattle.rules.specs.Chart.{in_domain, classes, class_number, tokens, counts, no_counts}
use Rattle.rules.specs.declared.Kind.TheVariants.{Standard as standard}
use Rattle.rules.specs.Texts.{text, pass_kinds, lengths_of}
use Rattle.rules.specs.Calls.{share, step_at, after_step, label_choice}
use Rattle.rules.specs.declared.RunDensity.{RunDensity}
use Rattle.rules.specs.declared.RunDensity.TheVariants.{Run32, Run24, Run20, Run16, Break}
use Rattle.rules.specs.declared.StreamBreakdownLevel.TheVariants as Level
use Rattle.rules.proofs.Bytes.{same-exactly}
use Rattle.rules.proofs.Domain.{within}
use Rattle.rules.proofs.Share.{share-most}
use Rattle.rules.proofs.Steps.{active-part}
use Rattle.counts.specs.Promises.{has_stream}
use Rattle.token_view.specs.Promises.{no_token}
use Rattle.segments.specs.Promises.{segments_no, no_segment, nth_segment}
use Rattle.segments.specs.declared.SegmentsAnswer.{SegmentsAnswer}
use Rattle.segments.specs.declared.NthSegment.{NthSegment}
use Rattle.record.specs.Record.{fields_of, densities, name_of, record_no}
use Rattle.record.specs.declared.RecordAnswer.{RecordAnswer}
use Rattle.note_rows.specs.NoteRows.{row_densities, note_rows_no}
use Rattle.note_rows.specs.declared.RowsAnswer.{RowsAnswer}
use Rattle.chart_texts.specs.Promises.{three_no}
use Rattle.chart_texts.specs.declared.ThreeWritten.{ThreeWritten}
use Rattle.label.specs.Promises.{label_text, label_level, label_no, pair_choice}
use Rattle.label.specs.declared.LabelWritten.{LabelWritten}
use Rattle.stream_outputs.specs.Promises.{pass_no}
use Rattle.stream_outputs.specs.declared.StreamOutputs.{StreamOutputs}
use Rattle.sheet_lines.specs.Sheet.{sheet_bytes}
use Rattle.acceptance.specs.Accepted.{Accepted}

kept-segment : (q : ℕ) (x : NthSegment) → (accepted q x (record { refused = q; found = false; segment = no_segment })).refused ≡ 0
    → accepted q x (record { refused = q; found = false; segment = no_segment }) ≡ x
kept-segment zero x h = refl
kept-segment (suc q) x h = absurd (omega (arith, h))

class_back : ℕ → RunDensity
class_back zero = Break
class_back (suc zero) = Run16
class_back (suc (suc zero)) = Run20
class_back (suc (suc (suc zero))) = Run24
class_back (suc (suc (suc (suc n)))) = Run32

class_back_lem : (r : RunDensity) → class_back (class_number r) ≡ r
unfolding class_back
class_back_lem Break = refl
class_back_lem Run16 = refl
class_back_lem Run20 = refl
class_back_lem Run24 = refl
class_back_lem Run32 = refl

one_class_lem : (r s : RunDensity) → class_number r ≡ class_number s → r ≡ s
one_class_lem r s e = sym (class_back_lem r) ∙ ap class_back e ∙ class_back_lem s

pair_fits : (first second : List ℕ) (width : ℕ) → length (pair_choice first second width) ≤ width
pair_fits first second width =
    split (leb (length first) width)
    (λ e. rw e (leb-true (length first) width e))
    (λ e. split (leb (length second) width) (λ f. rw (e, f) (leb-true (length second) width f)) (λ f. rw (e, f) (omega arith)))

pub all-accepted : Accepted
unfolding nth_segment
all-accepted =
    record {
      one_text = λ q text old new r p h. let w = text-accepted q text old new r p h in (w.1, w.2);
      breakdowns = λ ks m old new r p h.
          let q = three_no ks m old in
          let z : q ≡ 0 = sym (ap (λ (w : ThreeWritten). w.refused) p.answer) ∙ h in
          (ap (λ (w : ThreeWritten). w.lengths) p.answer ∙ kept q _ _ z, p.bytes ∙ kept q _ _ z);
      outputs = λ m cs cs' ns ns' old new r p h.
          let q = pass_no m cs ns old in
          let z : q ≡ 0 = sym (ap (λ (w : StreamOutputs). w.refused) p.answer) ∙ h in
          let cs₁ = kept q (counts (classes m)) no_counts z in
          let ts₁ = kept q (length (tokens (classes m))) 0 z in
          let ls₁ = kept q (lengths_of pass_kinds m) (replicate 6 0) z in
          (p.answer ∙ rw (cs₁, ts₁, ls₁, z), p.in_classes ∙ kept q _ _ z, p.in_lengths ∙ kept q _ _ z, p.bytes ∙ kept q _ _ z);
      label = λ width m old new r p h.
          let q = label_no width m old in
          let z : q ≡ 0 = sym (ap (λ (w : LabelWritten). w.refused) p.answer) ∙ h in (
            p.answer ∙ rw (kept q (label_level (label_choice width m)) 0 z, kept q (length (label_text (label_choice width m) m)) 0 z, z),
            p.bytes
                ∙ kept q _ _ z,
          );
      segments = λ m old new r p h.
          let q = segments_no m old in
          let z : q ≡ 0 = sym (ap (λ (w : SegmentsAnswer). w.refused) p.answer) ∙ h in
          (ap (λ (w : SegmentsAnswer). w.count) p.answer ∙ kept q _ _ z, p.records ∙ kept q _ _ z);
      chart_record = λ bytes old new r p h.
          let q = record_no bytes old in
          let z : q ≡ 0 = sym (ap (λ (w : RecordAnswer). w.refused) p.answer) ∙ h in
          let ds₁ = kept q (length (densities (fields_of bytes))) 0 z in
          let name₁ = kept q (length (name_of (fields_of bytes))) 0 z in
          (p.answer ∙ rw (ds₁, kept {A = ℕ} q 3 0 z, name₁, z), p.placed ∙ kept q _ _ z);
      note_rows = λ text old new r p h.
          let q = note_rows_no text old in
          let z : q ≡ 0 = sym (ap (λ (w : RowsAnswer). w.refused) p.answer) ∙ h in
          (p.answer ∙ rw (kept q (length (row_densities text)) 0 z, z), p.placed ∙ kept q _ _ z);
      view = λ m q v o h. o.left ∙ kept _ m [] (sym o.number ∙ h);
      counts = λ m h. kept (first_no (in_domain m ∷ [])) (counts (classes m)) no_counts h;
      share = λ m h. (kept (first_no (in_domain m ∷ has_stream m ∷ [])) (share (classes m)) 0 h, share-most (classes m));
      alike = λ a b h.
          let x = text (standard Level.Detailed) a in
          let y = text (standard Level.Detailed) b in
          rw (kept (first_no (in_domain a ∷ in_domain b ∷ [])) (same_bytes x y) false h) (same-exactly x y);
      nth_token = λ k m h. kept (first_no (in_domain m ∷ [])) (step_at k m) no_token h;
      step = λ v said next s h.
          let e = kept (first_no (in_domain v ∷ [])) v [] (within v h) in
          (s.token ∙ ap (step_at 0) e, s.left ∙ ap after_step e);
      segment_at = λ k m h. kept-segment (first_no (in_domain m ∷ [])) _ h;
      sheet = λ input r p. rw p.answer (take-append_seam (sheet_bytes input) _);
      class = λ d r s p q. one_class_lem r s (p ∙ sym q);
      active_range = active-part;
      pair = pair_fits;
    }
