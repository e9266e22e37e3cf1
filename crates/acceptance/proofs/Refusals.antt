-- Demand 1 holds: what a promise says of a refused call.
-- Assumes nothing.
use Prim.Native.Nat.{ℕ, zero, suc}
use mathlib.Core.Path.{◌≡◌, refl, ap, ◌∙◌}
use mathlib.Core.Logic.{◌≢◌}
use mathlib.Core.Bool.{false}
use mathlib.Core.List.{List, [], ◌∷◌}
use lib.ListN.{length, drop, replicate}
use Rattle.number.specs.Questions.{first_no, accepted, filled}
use Rattle.number.specs.declared.Written.{Written}
use Rattle.number.proofs.Questions.{refused-is as refused}
use Rattle.rules.specs.Chart.{in_domain, classes, tokens, counts, no_counts}
use Rattle.rules.specs.Texts.{pass_kinds, lengths_of}
use Rattle.rules.specs.Calls.{segments, share, step_at, label_choice}
use Rattle.counts.specs.Promises.{has_stream}
use Rattle.token_view.specs.Promises.{no_token}
use Rattle.segments.specs.Promises.{segments_no, no_segment, first_segment, nth_segment}
use Rattle.rules.specs.declared.StreamSegment.{StreamSegment}
use Rattle.segments.specs.declared.SegmentsAnswer.{SegmentsAnswer}
use Rattle.segments.specs.declared.NthSegment.{NthSegment}
use Rattle.record.specs.Record.{fields_of, densities, name_of, record_no}
use Rattle.record.specs.declared.RecordAnswer.{RecordAnswer}
use Rattle.note_rows.specs.NoteRows.{row_densities, note_rows_no}
use Rattle.note_rows.specs.declared.RowsAnswer.{RowsAnswer}
use Rattle.chart_texts.specs.Promises.{three_no}
use Rattle.chart_texts.specs.declared.ThreeWritten.{ThreeWritten}
use Rattle.label.specs.Promises.{label_text, label_level, label_no}
use Rattle.label.specs.declared.LabelWritten.{LabelWritten}
use Rattle.stream_outputs.specs.Promises.{pass_no}
use Rattle.stream_outputs.specs.declared.StreamOutputs.{StreamOutputs}
use Rattle.acceptance.specs.Refusals.{Refusals}

first-accepted : (ss : List StreamSegment) → (first_segment ss).refused ≡ 0
first-accepted [] = refl
first-accepted (s ∷ ss) = refl

no-segment : (q : ℕ) (x : NthSegment) → x.refused ≡ 0 → let a = accepted q x (record { refused = q; found = false; segment = no_segment }) in
    (a.refused ≢ 0) → (a.found ≡ false) × (a.segment ≡ no_segment)
no-segment zero x e h = absurd (h e)
no-segment (suc q) x e h = (refl, refl)

pub refusals : Refusals
unfolding nth_segment
refusals =
    record {
      one_text = λ q text old new r p h.
          let n : q ≢ 0 = λ e. h (ap (λ (w : Written). w.refused) p.answer ∙ e) in
          (p.answer ∙ rw (refused q (length text) 0 n), p.bytes ∙ refused q (filled old text) old n);
      breakdowns = λ ks m old new r p h.
          let q = three_no ks m old in
          let n : q ≢ 0 = λ e. h (ap (λ (w : ThreeWritten). w.refused) p.answer ∙ e) in
          (ap (λ (w : ThreeWritten). w.lengths) p.answer ∙ refused q _ _ n, p.bytes ∙ refused q _ _ n);
      outputs = λ m cs cs' ns ns' old new r p h.
          let q = pass_no m cs ns old in
          let e : r.refused ≡ q = ap (λ (w : StreamOutputs). w.refused) p.answer in
          let n : q ≢ 0 = λ z. h (e ∙ z) in
          let cs₀ = refused q (counts (classes m)) no_counts n in
          let ts₀ = refused q (length (tokens (classes m))) 0 n in
          let ls₀ = refused q (lengths_of pass_kinds m) (replicate 6 0) n in
          (p.answer ∙ rw (e, cs₀, ts₀, ls₀), p.in_classes ∙ refused q _ _ n, p.in_lengths ∙ refused q _ _ n, p.bytes ∙ refused q _ _ n);
      label = λ width m old new r p h.
          let q = label_no width m old in
          let e : r.refused ≡ q = ap (λ (w : LabelWritten). w.refused) p.answer in
          let n : q ≢ 0 = λ z. h (e ∙ z) in
          let choice = label_choice width m in
          (p.answer ∙ rw (e, refused q (label_level choice) 0 n, refused q (length (label_text choice m)) 0 n), p.bytes ∙ refused q _ _ n);
      segments = λ m old new r p h.
          let q = segments_no m old in
          let e : r.refused ≡ q = ap (λ (w : SegmentsAnswer). w.refused) p.answer in
          let n : q ≢ 0 = λ z. h (e ∙ z) in
          (p.answer ∙ rw (e, refused q (length (segments (classes m))) 0 n), p.records ∙ refused q _ _ n);
      chart_record = λ bytes old new r p h.
          let q = record_no bytes old in
          let e : r.refused ≡ q = ap (λ (w : RecordAnswer). w.refused) p.answer in
          let n : q ≢ 0 = λ z. h (e ∙ z) in
          let ds₀ = refused q (length (densities (fields_of bytes))) 0 n in
          let name₀ = refused q (length (name_of (fields_of bytes))) 0 n in
          (p.answer ∙ rw (e, ds₀, refused {A = ℕ} q 3 0 n, name₀), p.placed ∙ refused q _ _ n);
      note_rows = λ text old new r p h.
          let q = note_rows_no text old in
          let e : r.refused ≡ q = ap (λ (w : RowsAnswer). w.refused) p.answer in
          let n : q ≢ 0 = λ z. h (e ∙ z) in
          (p.answer ∙ rw (e, refused q (length (row_densities text)) 0 n), p.placed ∙ refused q _ _ n);
      view = λ m q v o h. o.left ∙ refused _ m [] (λ e. h (o.number ∙ e));
      counts = λ m h. refused (first_no (in_domain m ∷ [])) (counts (classes m)) no_counts h;
      share = λ m h. refused (first_no (in_domain m ∷ has_stream m ∷ [])) (share (classes m)) 0 h;
      alike = λ a b h. refused (first_no (in_domain a ∷ in_domain b ∷ [])) _ false h;
      nth_token = λ k m h. refused (first_no (in_domain m ∷ [])) (step_at k m) no_token h;
      segment_at = λ k m h. let ss = drop k (segments (classes m)) in no-segment (first_no (in_domain m ∷ [])) (first_segment ss) (first-accepted ss) h;
    }
