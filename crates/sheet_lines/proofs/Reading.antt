-- From the record that was read to what `sheet` prints. Nothing here speaks of code.
-- Assumes nothing.
use Rattle.std.proofs.Common.{ℕ, ◌+◌, ◌-◌, ◌≤◌, ◌<◌, ◌≡◌, sym, ap, ◌∙◌, List, [], ◌∷◌, length, take, drop, arith, length-append, Ok, Err}
use Rattle.std.proofs.Math.ListN.{replicate}
use Rattle.std.proofs.Math.Seq.{take_at}
use borrow.Author.Tests.{le-leb, lt-leb}
use Rattle.number.specs.Questions.{filled, OneText}
use Rattle.number.specs.Refusal.{refusal_number, written_of}
use Rattle.number.specs.declared.refusal.Refusal.{Refusal}
use Rattle.number.specs.declared.Written.{Written}
use Rattle.number.proofs.Numbered.{numbered}
use Rattle.number.proofs.Questions.{refused-is}
use Rattle.record.specs.Record.{fields_of, name_of, record_no}
use Rattle.record.specs.Promises.{ReadRecord, record_answer_of}
use Rattle.record.specs.declared.ChartRecord.{ChartRecord}
use Rattle.record.specs.declared.RecordAnswer.{RecordAnswer}
use Rattle.record.proofs.Name.{name-at, named}
use Rattle.stream_outputs.specs.Promises.{pass_no}
use Rattle.sheet_lines.specs.Sheet.{places, text_bytes, total_bytes, total_no, chart_of, sheet_no, sheet_bytes, Printed}
use Rattle.sheet_lines.specs.declared.Sheet.{Sheet}
use Rattle.sheet_lines.specs.Steps.{AtStart, Roomy, NameRoom, refusal_line, texts_no, chart_lines, sheet_lines}
use Rattle.sheet_lines.proofs.Charted.{first-no}

-- question 13
pub too-long : (input : List ℕ) → 16384 < length input → sheet_no input ≡ 13
unfolding sheet_no
too-long input h = rw (lt-leb (length input) 16384 h)

pub too_long : (input : List ℕ) → 16384 < length input → sheet_bytes input ≡ refusal_line 13
unfolding sheet_bytes
too_long input h = rw (too-long input h)

module _ {input new : List ℕ} {r : RecordAnswer} (p : ReadRecord input places new r) where
  record-no : record_no input places ≡ r.refused
  record-no = sym (ap (λ (o : RecordAnswer). o.refused) p.answer)

pub by-record : {input new : List ℕ} (e : Refusal) → length input ≤ 16384 → ReadRecord input places new (record_answer_of (Err e))
    → sheet_no input ≡ refusal_number e
unfolding sheet_no
by-record {input} e short p =
    let m = chart_of input in
    rw (le-leb (length input) 16384 short, record-no p)
    (first-no (refusal_number e) (pass_no m places places text_bytes ∷ total_no m total_bytes ∷ []) (numbered e))

module _ {input new : List ℕ} {r : ChartRecord} (p : ReadRecord input places new (record_answer_of (Ok r))) where
  abbrev name : List ℕ
  name = name_of (fields_of input)

  read : record_no input places ≡ 0
  read = record-no p

  r-is : record_answer_of (Ok r) ≡ record { refused = 0; measures = length (chart_of input); name_start = 3; name_length = length name }
  r-is = rw read at p.answer

  start-is : r.name_start ≡ 3
  start-is = ap (λ (o : RecordAnswer). o.name_start) r-is

  length-is : r.name_length ≡ length name
  length-is = ap (λ (o : RecordAnswer). o.name_length) r-is

  measures-are : r.measures ≡ length (chart_of input)
  measures-are = ap (λ (o : RecordAnswer). o.measures) r-is

  new-is : new ≡ filled places (chart_of input)
  new-is = rw read at p.placed

  pub name-end : r.name_start + r.name_length ≤ length input
  name-end = omega (arith, start-is, length-is, (named input places read).within)

  abbrev name_read : List ℕ
  name_read = take (r.name_start + r.name_length - r.name_start) (drop r.name_start input)

  name-is : name_read ≡ name
  name-is =
      let e : r.name_start + r.name_length - r.name_start ≡ length name = omega (arith, length-is) in
      rw (e, start-is) (name-at input)

  pub name-room : {out : List ℕ} → Roomy out → NameRoom name_read out
  name-room h = record { short = rw name-is (named input places read).short; most = h.most }

  chart-is : take r.measures new ≡ chart_of input
  chart-is = rw new-is (take_at (chart_of input) _ r.measures (sym measures-are))

  same-no : length input ≤ 16384 → sheet_no input ≡ texts_no (chart_of input)
  unfolding sheet_no texts_no
  same-no short = rw (le-leb (length input) 16384 short, read)

  pub sheet-put : length input ≤ 16384 → {old out : List ℕ} {w : Written}
      → OneText (texts_no (take r.measures new)) (chart_lines name_read (take r.measures new)) old out w
      → OneText (sheet_no input) (sheet_lines input) old out w
  sheet-put short h = rw (same-no short) (rw (name-is, chart-is) at h)

-- ---- the lines, or the line of a refusal

pub accepted-printed : (input : List ℕ) {old new : List ℕ} {n : ℕ} → OneText (sheet_no input) (sheet_lines input) old new (written_of (Ok n))
    → AtStart old new (sheet_bytes input) n
unfolding sheet_bytes chart_lines
accepted-printed input p =
    let no : sheet_no input ≡ 0 = sym (ap (λ (w : Written). w.refused) p.answer) in
    rw no (record { number = ap (λ (w : Written). w.length) (rw no at p.answer); bytes = rw no at p.bytes })

pub refused-printed : (input : List ℕ) {old new out : List ℕ} {n : ℕ} (e : Refusal) → OneText (sheet_no input) (sheet_lines input) old new (written_of (Err e))
    → AtStart new out (refusal_line (refusal_number e)) n → AtStart old out (sheet_bytes input) n
unfolding sheet_bytes
refused-printed input e p w =
    let no : sheet_no input ≡ refusal_number e = sym (ap (λ (w : Written). w.refused) p.answer) in
    let same = p.bytes ∙ rw no (refused-is (refusal_number e) _ _ (numbered e)) in
    rw (no, refused-is (refusal_number e) _ _ (numbered e)) (rw same at w)

-- the bytes to print are bytes of the array
pub sheet-within : {input : List ℕ} {r : Sheet} → Printed input r → r.length ≤ length r.bytes
sheet-within {input} {r} p =
    let xs = sheet_bytes input in
    let old = replicate {A = ℕ} 66048 0 in
    omega (arith, ap (λ (s : Sheet). s.length) p.answer, ap (λ (s : Sheet). length s.bytes) p.answer, length-append xs (drop (length xs) old))
