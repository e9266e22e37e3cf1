-- Alike records get the same answer: they are cut in the same way, refused alike, and have equally many measures.
-- Assumes nothing.
use Prim.Native.Nat.{ℕ}
use mathlib.Core.Path.{◌≡◌, refl, sym, ap, ◌∙◌}
use mathlib.Core.Bool.{Bool, true, false, cond}
use mathlib.Core.List.{List, []}
use lib.Dec.{eqb}
use lib.ListN.{length, length-map}
use Rattle.number.proofs.Split.{split, never}
use Rattle.rules.specs.Chart.{class_of}
use Rattle.record.specs.Record.{Fields, end, head_cut, payload_cut, whole, fields_of, field_no, fields_no, densities, name_of, record_no}
use Rattle.record.specs.Alike.{tags, ending, Alike}
use Rattle.record.specs.Promises.{ReadRecord}
use Rattle.record.specs.declared.RecordAnswer.{RecordAnswer}
use Rattle.record.proofs.Sizes.{same-ending}

-- only a name's bytes are asked about, and only in the first field
same-field : (first : Bool) (t : ℕ) (p q : List ℕ) → (first ≡ true → cond (eqb t 1) p [] ≡ cond (eqb t 1) q []) → field_no first t p ≡ field_no first t q
unfolding field_no
same-field true t p q h = split (eqb t 1) (λ e. rw (rw e at (h refl))) (λ e. rw e)
same-field false t p q h = split (eqb t 1) (λ e. rw e) (λ e. rw e)

-- fields without a whole one are their own ending
no_whole : (fs : Fields) → [] ≡ tags fs → ending fs ≡ fs
no_whole end ts = refl
no_whole head_cut ts = refl
no_whole payload_cut ts = refl
no_whole (whole t p fs) ts = never (cc)

same-fields : (first : Bool) (fs gs : Fields) → tags fs ≡ tags gs → ending fs ≡ ending gs → (first ≡ true → name_of fs ≡ name_of gs)
    → fields_no first fs ≡ fields_no first gs
same-fields first end gs ts e ns = ap (fields_no first) (e ∙ no_whole gs ts)
same-fields first head_cut gs ts e ns = ap (fields_no first) (e ∙ no_whole gs ts)
same-fields first payload_cut gs ts e ns = ap (fields_no first) (e ∙ no_whole gs ts)
same-fields first (whole t p fs) end ts e ns = never (cc)
same-fields first (whole t p fs) head_cut ts e ns = never (cc)
same-fields first (whole t p fs) payload_cut ts e ns = never (cc)
same-fields first (whole t p fs) (whole u q gs) ts e ns =
    let tag : u ≡ t = cc in
    let rest = same-fields false fs gs (cc) e (λ f. never (cc)) in
    let field = same-field first t p q (λ f. rw tag at (ns f)) in
    rw (tag, field, rest)

module _ (a b : List ℕ) (s : Alike a b) where
  pub same-measures : length (densities (fields_of a)) ≡ length (densities (fields_of b))
  same-measures = sym (length-map (densities (fields_of a)) class_of) ∙ ap length s.charts ∙ length-map (densities (fields_of b)) class_of

  pub same-no : (old lent : List ℕ) → length old ≡ length lent → record_no a old ≡ record_no b lent
  unfolding record_no
  same-no old lent h =
      let ends = same-ending a b s.long s.sized in
      let fields = same-fields true (fields_of a) (fields_of b) s.tagged ends (λ f. s.names) in
      rw (fields, same-measures, h)

  pub same-record : {old new₁ new₂ : List ℕ} {r₁ r₂ : RecordAnswer} → ReadRecord a old new₁ r₁ → ReadRecord b old new₂ r₂ → r₁ ≡ r₂
  same-record {old} p q = p.answer ∙ rw (same-no old old refl, same-measures, s.names) (sym q.answer)
