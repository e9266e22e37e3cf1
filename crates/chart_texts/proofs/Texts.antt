-- A text of crate `breakdown`, made from the measures of the active part, is the chart's; and the most bytes of a text. All for every kind.
-- Assumes nothing.
use Prim.Native.Nat.{ℕ, ◌+◌, ◌*◌, ◌≤◌}
use mathlib.Core.Path.{◌≡◌, sym, ◌∙◌}
use mathlib.Core.Bool.{Bool, true, false, true≢false}
use mathlib.Core.List.{List}
use native.Mathlib.Omega.{arith}
use lib.ListN.{length}
use Rattle.rules.specs.Chart.{classes, active_part, runs, streams}
use Rattle.rules.specs.Texts.{text}
use Rattle.rules.specs.declared.Kind.{Kind}
use Rattle.rules.specs.declared.Kind.TheVariants.{Sn as sn, Standard as standard}
use Rattle.rules.specs.declared.StreamBreakdownLevel.TheVariants as Level
use Rattle.rules.proofs.Bound.{text-most}
use Rattle.breakdown.specs.Forms.{form_of, is_total, text_of}
use Rattle.breakdown.specs.declared.form.Form.{Form}
use Rattle.standard_text.specs.Standard.{total_text}
use Rattle.breakdown.proofs.Modes.{part-tokens, form-text, total-text}

-- a kind that is, or is not, Total, as `is_total` answers
pub is-text : (m : List ℕ) (k : Kind) {part : List ℕ} {f : Form} {r : Bool} → part ≡ active_part m → f ≡ form_of k → r ≡ is_total k → r ≡ false
    → text_of f (runs (classes part)) ≡ text k m
is-text m k e f g h = rw (e, f) (form-text (runs (classes (active_part m))) m (part-tokens m) k (sym g ∙ h))

pub is-total : (m : List ℕ) (k : Kind) {n : ℕ} {r : Bool} → n ≡ streams (classes m) → r ≡ is_total k → r ≡ true → total_text n ≡ text k m
is-total m (standard Level.Total) e g h = rw e (total-text m)
is-total m (sn mode) e g h = absurd (true≢false (sym h ∙ g))
is-total m (standard Level.Detailed) e g h = absurd (true≢false (sym h ∙ g))
is-total m (standard Level.Partial) e g h = absurd (true≢false (sym h ∙ g))
is-total m (standard Level.Simple) e g h = absurd (true≢false (sym h ∙ g))

pub text-short : (m : List ℕ) (k : Kind) → length (text k m) ≤ 4 * length m + 11
text-short m (sn mode) = omega (arith, text-most m (sn mode))
text-short m (standard Level.Detailed) = omega (arith, text-most m (standard Level.Detailed))
text-short m (standard Level.Partial) = omega (arith, text-most m (standard Level.Partial))
text-short m (standard Level.Simple) = omega (arith, text-most m (standard Level.Simple))
text-short m (standard Level.Total) = omega (arith, text-most m (standard Level.Total))
