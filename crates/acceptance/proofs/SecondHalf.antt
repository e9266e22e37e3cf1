-- Demand 3, second half, holds: whatever a call wrote is document 01's text, and two texts are the same exactly when the reduced lists are.
-- Assumes nothing.
use Prim.Native.Nat.{ℕ, zero, suc}
use Rattle.std.specs.Prelude.{Option, Some, None}
use mathlib.Core.Path.{◌≡◌, refl, sym, ap, ◌∙◌}
use mathlib.Core.List.{List}
use native.Mathlib.Omega.{arith}
use mathlib.Core.Bool.{cond}
use lib.Dec.{eqb}
use lib.ListN.{length, take, drop}
use lib.Seq.{take-append_seam}
use Rattle.number.specs.Questions.{accepted, filled}
use Rattle.number.specs.declared.Written.{Written}
use Rattle.rules.specs.Chart.{classes, counts}
use Rattle.rules.specs.declared.Kind.{Kind}
use Rattle.rules.specs.declared.Kind.TheVariants.{Standard as standard}
use Rattle.rules.specs.Texts.{text, end_to_end, lengths_of, pass_kinds}
use Rattle.rules.specs.Calls.{level_number, label_choice}
use Rattle.rules.specs.declared.StreamBreakdownLevel.{StreamBreakdownLevel}
use Rattle.rules.specs.declared.StreamBreakdownLevel.TheVariants as Level
use Rattle.rules.proofs.Demand.{exactly}
use Rattle.chart_texts.specs.declared.ThreeWritten.{ThreeWritten}
use Rattle.label.specs.Promises.{label_text, label_level}
use Rattle.label.specs.declared.LabelWritten.{LabelWritten}
use Rattle.stream_outputs.specs.declared.StreamOutputs.{StreamOutputs}
use Rattle.sn_to_standard.specs.Laws.{sn_text, standard_text}
use Rattle.sn_to_standard.proofs.Laws.{laws}
use Rattle.sheet_lines.specs.Sheet.{text_lines, sheet_no, sheet_kinds, chart_of, Printed}
use Rattle.sheet_lines.specs.declared.Sheet.{Sheet}
use Rattle.counts_line.proofs.Lines.{counts-line}
use Rattle.acceptance.specs.SecondHalf.{nth, KindAt, after_line, line_at, TextWritten, single, three, pass, label, converted, sheet, SecondHalf}
use Rattle.acceptance.proofs.Written.{marked-off, nth-text, after_line_lem, line-text, after-name}

-- several texts end to end, refused by the number q or not
several : (q : ℕ) (ks : List Kind) (i : ℕ) (k : Kind) (m old new ns zs : List ℕ) → KindAt ks i k → q ≡ 0 → ns ≡ accepted q (lengths_of ks m) zs
    → new ≡ accepted q (filled old (end_to_end ks m)) old → nth ns i new ≡ text k m
several zero ks i k m old new ns zs h e l b = rw (l, b) (nth-text ks i k m (drop (length (end_to_end ks m)) old) h)
several (suc q) ks i k m old new ns zs h e l b = absurd (omega (arith, e))

-- levels of one number are one level
abbrev level_of : ℕ → StreamBreakdownLevel
level_of n = cond (eqb n 1) Level.Detailed (cond (eqb n 2) Level.Partial (cond (eqb n 3) Level.Simple Level.Total))

level-of : (l : StreamBreakdownLevel) → level_of (level_number l) ≡ l
level-of Level.Detailed = refl
level-of Level.Partial = refl
level-of Level.Simple = refl
level-of Level.Total = refl

level-one : (k l : StreamBreakdownLevel) → level_number k ≡ level_number l → k ≡ l
level-one k l e = sym (level-of k) ∙ ap level_of e ∙ level-of l

-- the level that a label answers is the one whose text it wrote
labelled : (q : ℕ) (c : Option StreamBreakdownLevel) (l : StreamBreakdownLevel) (m : List ℕ) → q ≡ 0 → level_number l ≡ accepted q (label_level c) 0
    → label_text c m ≡ text (standard l) m
labelled zero (Some k) l m e h = ap (λ (j : StreamBreakdownLevel). text (standard j) m) (level-one k l (sym h))
labelled zero None Level.Detailed m e h = absurd (omega (arith, h))
labelled zero None Level.Partial m e h = absurd (omega (arith, h))
labelled zero None Level.Simple m e h = absurd (omega (arith, h))
labelled zero None Level.Total m e h = absurd (omega (arith, h))
labelled (suc q) c l m e h = absurd (omega (arith, e))

-- sheet's texts are its lines from the third on
printed-text : (i : ℕ) (k : Kind) (input : List ℕ) (r : Sheet) → KindAt sheet_kinds i k → Printed input r → sheet_no input ≡ 0
    → line_at (suc (suc i)) (take r.length r.bytes) ≡ text k (chart_of input)
printed-text i k input r h p e =
    let m = chart_of input in
    ap (λ (l : List ℕ). line_at i (after_line l)) (after-name input r p e)
    ∙ ap (line_at i) (after_line_lem (text_lines sheet_kinds m) (counts-line 0 (counts (classes m))))
    ∙ line-text sheet_kinds i k m h

pub written-text : {k : Kind} {m x : List ℕ} → TextWritten k m x → x ≡ text k m
written-text (single k m old new r p e) =
    let accept = sym (ap (λ (w : Written). w.refused) p.answer) ∙ e in
    marked-off _ (text k m) old new r.length accept (ap (λ (w : Written). w.length) p.answer) p.bytes
written-text (three ks i k m old new r h p e) =
    let accept = sym (ap (λ (w : ThreeWritten). w.refused) p.answer) ∙ e in
    several _ ks i k m old new r.lengths _ h accept (ap (λ (w : ThreeWritten). w.lengths) p.answer) p.bytes
written-text (pass i k m cs cs' ns ns' old new r h p e) =
    let accept = sym (ap (λ (w : StreamOutputs). w.refused) p.answer) ∙ e in
    several _ pass_kinds i k m old new r.lengths _ h accept (ap (λ (w : StreamOutputs). w.lengths) p.answer) p.bytes
written-text (label width l m old new r p e h) =
    let accept = sym (ap (λ (w : LabelWritten). w.refused) p.answer) ∙ e in
    marked-off _ (label_text (label_choice width m) m) old new r.length accept (ap (λ (w : LabelWritten). w.length) p.answer) p.bytes
    ∙ labelled _ (label_choice width m) l m accept (sym h ∙ ap (λ (w : LabelWritten). w.level) p.answer)
written-text (converted m old new r p e) =
    let w = (laws.answers (sn_text m) old new r p).right e m refl in
    rw (w.0, w.1) (take-append_seam (standard_text m) (drop (length (standard_text m)) old))
written-text (sheet i k input r h p e) = printed-text i k input r h p e

pub second-half : SecondHalf
second-half =
    record {
      exactly = λ k a b x y p q. rw (written-text p, written-text q) ((exactly a b).texts k);
      detailed = λ a b x y p q. rw (written-text p, written-text q) (exactly a b).detailed;
    }
