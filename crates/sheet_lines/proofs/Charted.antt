-- From the answers of the pass and of Total to the lines of a chart. Nothing here speaks of code.
-- Assumes nothing.
use Rattle.std.proofs.Common.{ℕ, zero, suc, ◌≤◌, ◌≡◌, refl, sym, ap, ◌∙◌, Bool, true, false, cond, ◌&&◌, leb, List, [], ◌∷◌, ◌++◌, length, take, drop, arith, append_assoc, append-nil, length-append, Ok, Err}
use Rattle.std.proofs.Math.ListN.{length-replicate}
use Rattle.std.proofs.Math.Seq.{take_at, drop_at}
use Rattle.std.specs.List.{sum}
use borrow.Author.Tests.{leb-true}
use Rattle.number.specs.Questions.{filled, OneText}
use Rattle.number.specs.Refusal.{refusal_number, written_of}
use Rattle.number.specs.declared.refusal.Refusal.{Refusal}
use Rattle.number.specs.declared.Written.{Written}
use Rattle.number.proofs.Numbered.{numbered}
use Rattle.number.proofs.Questions.{refused-is}
use Rattle.rules.specs.Chart.{classes, tokens, counts}
use Rattle.rules.specs.declared.Kind.{Kind}
use Rattle.rules.specs.declared.Kind.TheVariants.{Standard as standard}
use Rattle.rules.specs.Texts.{text, pass_kinds, end_to_end, lengths_of}
use Rattle.rules.specs.declared.StreamCounts.{StreamCounts}
use Rattle.rules.specs.declared.StreamBreakdownLevel.TheVariants as Level
use Rattle.chart_texts.specs.Promises.{Breakdown}
use Rattle.stream_outputs.specs.Promises.{pass_no, Outputs, stream_outputs_of}
use Rattle.stream_outputs.specs.declared.ChartOutputs.{ChartOutputs}
use Rattle.stream_outputs.specs.declared.StreamOutputs.{StreamOutputs}
use Rattle.counts_line.specs.CountsLine.{line, counts_line}
use Rattle.counts_line.proofs.Bound.{counts-short}
use Rattle.sheet_lines.specs.Sheet.{places, text_bytes, total_bytes, first_refusal, total_no, sheet_kinds, text_lines}
use Rattle.sheet_lines.specs.Steps.{AtStart, NameRoom, LinesRoom, cut_lines, all_lines, texts_no, chart_lines}
use Rattle.sheet_lines.proofs.Bound.{sum-lengths, lines-length}

-- ---- refusals

pub first-no : (n : ℕ) (ns : List ℕ) → (n ≡ 0 → ⊥) → first_refusal (n ∷ ns) ≡ n
first-no zero ns h = absurd (h refl)
first-no (suc n) ns h = refl

-- nothing is put where the first no has the refusal's number
pub refused : {no : ℕ} (e : Refusal) (xs old : List ℕ) → no ≡ refusal_number e → OneText no xs old old (written_of (Err e))
refused e xs old h =
    let n = refusal_number e in
    rw h (record {
      answer = rw (refused-is n (length xs) 0 (numbered e));
      bytes = sym (refused-is n (filled old xs) old (numbered e));
    })

module _ (m : List ℕ) where
  module _ {cs ns texts : List ℕ} {r : StreamOutputs} (p : Outputs m places cs places ns text_bytes texts r) where
    pass-no : pass_no m places places text_bytes ≡ r.refused
    pass-no = sym (ap (λ (o : StreamOutputs). o.refused) p.answer)

  pub by-pass : {cs ns texts : List ℕ} (e : Refusal) → Outputs m places cs places ns text_bytes texts (stream_outputs_of (Err e))
      → texts_no m ≡ refusal_number e
  unfolding texts_no
  by-pass e p = rw (pass-no p) (first-no (refusal_number e) (total_no m total_bytes ∷ []) (numbered e))

  module _ {cs ns texts : List ℕ} {o : ChartOutputs} (p : Outputs m places cs places ns text_bytes texts (stream_outputs_of (Ok o))) where
    pub by-total : {total : List ℕ} (e : Refusal) → Breakdown (standard Level.Total) m total_bytes total (written_of (Err e))
        → texts_no m ≡ refusal_number e
    unfolding texts_no
    by-total e q =
        let t : total_no m total_bytes ≡ refusal_number e = sym (ap (λ (w : Written). w.refused) q.answer) in
        rw (pass-no p, t) (first-no (refusal_number e) [] (numbered e))

-- ---- texts end to end, cut into lines

cut-all : (ks : List Kind) (m rest : List ℕ) → cut_lines (end_to_end ks m ++ rest) (lengths_of ks m) ≡ text_lines ks m
cut-all [] m rest = refl
cut-all (k ∷ ks) m rest =
    let t = text k m in
    let more = end_to_end ks m ++ rest in
    rw (append_assoc t (end_to_end ks m) rest, take_at t more (length t) refl, drop_at t more (length t) refl, cut-all ks m rest)

lines-append : (js ks : List Kind) (m : List ℕ) → text_lines (js ++ ks) m ≡ text_lines js m ++ text_lines ks m
lines-append [] ks m = refl
lines-append (j ∷ js) ks m =
    ap (λ (l : List ℕ). line (text j m) ++ l) (lines-append js ks m) ∙ sym (append_assoc (line (text j m)) (text_lines js m) (text_lines ks m))

seven-lines : (m : List ℕ) → text_lines sheet_kinds m ≡ text_lines pass_kinds m ++ line (text (standard Level.Total) m)
seven-lines m =
    lines-append pass_kinds (standard Level.Total ∷ []) m ∙ ap (λ (l : List ℕ). text_lines pass_kinds m ++ l) (append-nil (line (text (standard Level.Total) m)))

-- ---- accepted

asked : (b : Bool) (x n : ℕ) → cond b x (suc n) ≡ 0 → (b ≡ true) × (x ≡ 0)
asked true x n h = (refl, h)
asked false x n h = absurd (omega (arith, h))

-- a slice of k bytes that had room
module _ (m cs ns old : List ℕ) (k : ℕ) (long : length old ≡ k) where
  pass-room : pass_no m cs ns old ≡ 0 → (length m ≤ 1048576) × (length (end_to_end pass_kinds m) ≤ k)
  pass-room h =
      let a = asked (leb (length m) 1048576) _ 0 h in
      let b = asked (leb (length (tokens (classes m))) (length cs) && leb (length (tokens (classes m))) (length ns)) _ 1 a.1 in
      let d = asked (leb (length (end_to_end pass_kinds m)) (length old)) 0 3 b.1 in
      let few : length m ≤ 1048576 = leb-true _ _ a.0 in
      let fits : length (end_to_end pass_kinds m) ≤ length old = leb-true _ _ d.0 in
      (few, rw long at fits)

  total-room : total_no m old ≡ 0 → length (text (standard Level.Total) m) ≤ k
  total-room h =
      let a = asked (leb (length m) 1048576) _ 0 h in
      let b = asked (leb (length (text (standard Level.Total) m)) (length old)) 0 3 a.1 in
      let fits : length (text (standard Level.Total) m) ≤ length old = leb-true _ _ b.0 in
      rw long at fits

-- the lines from counts, texts and Total that are right
module _ (name m : List ℕ) where
  abbrev lines : List ℕ
  lines = line name ++ (line (counts_line (counts (classes m))) ++ (text_lines pass_kinds m ++ line (text (standard Level.Total) m)))

  right-lines : (rest : List ℕ) {c : StreamCounts} {texts ns total : List ℕ}
      → c ≡ counts (classes m) → texts ≡ end_to_end pass_kinds m ++ rest → ns ≡ lengths_of pass_kinds m
      → total ≡ text (standard Level.Total) m → all_lines name c texts ns total ≡ lines
  right-lines rest c t n l = rw (c, t, n, l, cut-all pass_kinds m rest)

  in-order : chart_lines name m ≡ lines
  unfolding chart_lines
  in-order = ap (λ (l : List ℕ). line name ++ (line (counts_line (counts (classes m))) ++ l)) (seven-lines m)

  lines-short : length name ≤ 64 → length m ≤ 1048576 → length (end_to_end pass_kinds m) ≤ 65536 → length (text (standard Level.Total) m) ≤ 32
      → length lines ≤ 66048
  lines-short a b d e =
      let total = text (standard Level.Total) m in
      let texts = text_lines pass_kinds m in
      let counted = line (counts_line (counts (classes m))) in
      let first = length-append (line name) (counted ++ (texts ++ line total)) in
      let second = length-append counted (texts ++ line total) in
      let third = length-append texts (line total) in
      omega (arith, first, length-append name (10 ∷ []), second, counts-short m b, third, lines-length m pass_kinds, length-append total (10 ∷ []))

module _ {m cs ns texts : List ℕ} {r : ChartOutputs} (p : Outputs m places cs places ns text_bytes texts (stream_outputs_of (Ok r))) where
  passed : pass_no m places places text_bytes ≡ 0
  passed = pass-no m p

  r-is : stream_outputs_of (Ok r)
      ≡ record { refused = 0; counts = counts (classes m); tokens = length (tokens (classes m)); lengths = lengths_of pass_kinds m }
  r-is = rw passed at p.answer

  texts-are : texts ≡ filled text_bytes (end_to_end pass_kinds m)
  texts-are = rw passed at p.bytes

  lengths-are : r.lengths ≡ lengths_of pass_kinds m
  lengths-are = ap (λ (o : StreamOutputs). o.lengths) r-is

  module _ {total : List ℕ} {n : ℕ} (q : Breakdown (standard Level.Total) m total_bytes total (written_of (Ok n))) where
    abbrev shown : List ℕ
    shown = text (standard Level.Total) m

    totalled : total_no m total_bytes ≡ 0
    totalled = sym (ap (λ (w : Written). w.refused) q.answer)

    total-length : n ≡ length shown
    total-length = ap (λ (w : Written). w.length) (rw totalled at q.answer)

    total-are : total ≡ filled total_bytes shown
    total-are = rw totalled at q.bytes

    total-is : take n total ≡ shown
    total-is = rw total-are (take_at shown _ n (sym total-length))

    module _ (name : List ℕ) {out : List ℕ} (h : NameRoom name out) where
      lines-are : all_lines name r.counts texts r.lengths (take n total) ≡ lines name m
      lines-are = right-lines name m _ (ap (λ (o : StreamOutputs). o.counts) r-is) texts-are lengths-are total-is

      pub lines-room : LinesRoom out name r.counts texts r.lengths (take n total)
      lines-room =
          let all = end_to_end pass_kinds m in
          let room = pass-room m places places text_bytes 65536 (length-replicate {A = ℕ} 65536 0) passed in
          let short = lines-short name m h.short room.0 room.1 (total-room m [] [] total_bytes 32 (length-replicate {A = ℕ} 32 0) totalled) in
          record {
            within = omega (arith, ap sum lengths-are, sum-lengths m pass_kinds, ap {B = ℕ} length texts-are, length-append all (drop (length all) text_bytes));
            room = record { fits = omega (arith, ap {B = ℕ} length lines-are, short, h.most) };
          }

      no-refusal : texts_no m ≡ 0
      unfolding texts_no
      no-refusal = rw (passed, totalled)

      pub printed : {new : List ℕ} {s : ℕ} → AtStart out new (all_lines name r.counts texts r.lengths (take n total)) s
          → OneText (texts_no m) (chart_lines name m) out new (written_of (Ok s))
      printed w =
          let l : all_lines name r.counts texts r.lengths (take n total) ≡ chart_lines name m = lines-are ∙ sym (in-order name m) in
          rw (no-refusal, ← l) (record { answer = rw w.number; bytes = w.bytes })
