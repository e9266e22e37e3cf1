-- Demand 3, first half: two calls on charts of equal classes, with equal lent slices and settings, give equal answers and leave equal bytes.
-- Assumes nothing.
use Prim.Native.Nat.{ℕ}
use mathlib.Core.Path.{◌≡◌, refl, sym, ap, ◌∙◌}
use mathlib.Core.List.{List, [], ◌∷◌}
use Rattle.std.proofs.Common.{Option, Some, None}
use Rattle.number.specs.Questions.{first_no, room_for}
use Rattle.rules.specs.Chart.{in_domain, classes}
use Rattle.rules.specs.declared.Kind.TheVariants.{Standard as standard}
use Rattle.rules.specs.Calls.{levels, first_within, label_choice}
use Rattle.rules.specs.declared.StreamBreakdownLevel.{StreamBreakdownLevel}
use Rattle.rules.proofs.Demand.{same_length, same_text}
use Rattle.label.specs.Promises.{label_text, some_fits, label_no, Label}
use Rattle.label.specs.declared.LabelWritten.{LabelWritten}

module _ (a b : List ℕ) (e : classes a ≡ classes b) where
  -- ---- label's choice, and the text that it shows

  module _ (width : ℕ) where
    same-choice : label_choice width a ≡ label_choice width b
    unfolding label_choice
    same-choice = go levels
      where
        go : (ls : List StreamBreakdownLevel) → first_within width a ls ≡ first_within width b ls
        go [] = refl
        go (l ∷ ls) = rw (same_text (standard l) a b e, go ls)

    same-shown : label_text (label_choice width a) a ≡ label_text (label_choice width b) b
    same-shown = rw same-choice (go (label_choice width b))
      where
        go : (x : Option StreamBreakdownLevel) → label_text x a ≡ label_text x b
        go (Some l) = same_text (standard l) a b e
        go None = refl

    same-no : (old : List ℕ) → label_no width a old ≡ label_no width b old
    same-no old =
        ap (λ (t : List ℕ). first_no (in_domain a ∷ some_fits (label_choice width a) ∷ room_for t old ∷ [])) same-shown
        ∙ rw (same_length a b e, same-choice)

  -- ---- the call

  pub same-label : {old new new' : List ℕ} (width : ℕ) {r s : LabelWritten} → Label width a old new r → Label width b old new' s
      → (r ≡ s) × (new ≡ new')
  same-label {old} width p q =
      let no = same-no width old in
      (p.answer ∙ rw (no, same-shown width, same-choice width) (sym q.answer), p.bytes ∙ rw (no, same-shown width) (sym q.bytes))
