-- Any number of steps of the token view: what each says, and charts of equal classes.
-- Assumes nothing.
use Prim.Native.Nat.{ℕ, zero, suc, ◌<◌}
use mathlib.Core.Path.{◌≡◌, refl, sym, ap, ◌∙◌}
use mathlib.Core.List.{List, [], ◌∷◌}
use native.Mathlib.Omega.{arith}
use Rattle.number.specs.Questions.{first_no, accepted}
use Rattle.rules.specs.Chart.{in_domain, classes}
use Rattle.rules.specs.Calls.{step_at, admitted}
use Rattle.rules.specs.declared.ViewToken.{ViewToken}
use Rattle.rules.proofs.Domain.{same_after}
use Rattle.rules.proofs.View.{same-steps}
use Rattle.token_view.specs.Promises.{nth_answer}
use Rattle.token_view.specs.Steps.{Stepped}
use Rattle.token_view.proofs.Views.{After, after_none, after_more, step-says}

module _ {m : List ℕ} {n no : ℕ} {v : ℕ → List ℕ} {t : ℕ → ViewToken} (r : Stepped m n no v t) where
  views : (k : ℕ) → k < n → After m k (v k)
  views zero h = after_none r.opens
  views (suc k) h = after_more (views k (omega arith)) (r.steps k (omega arith))

  -- step k, from the view that the step before left, says the chart's token k, and ended past the last
  pub steps-say : (k : ℕ) → k < n → t k ≡ step_at k (admitted m)
  steps-say k h = step-says (views k h) (r.steps k h)

module _ (a b : List ℕ) (e : classes a ≡ classes b) where
  same_number : first_no (in_domain a ∷ []) ≡ first_no (in_domain b ∷ [])
  same_number = same_after [] a b e

  same_kept : (r : ℕ) → classes (accepted r a []) ≡ classes (accepted r b [])
  same_kept zero = e
  same_kept (suc r) = refl

  same-admitted : classes (admitted a) ≡ classes (admitted b)
  same-admitted = same_kept (first_no (in_domain a ∷ [])) ∙ ap (λ (r : ℕ). classes (accepted r b [])) same_number

  -- Demand 3 for the token view: charts of equal classes open with the same number, and every step of the two says the same
  pub same_view : {n no no' : ℕ} {v w : ℕ → List ℕ} {t u : ℕ → ViewToken} → Stepped a n no v t → Stepped b n no' w u
      → (no ≡ no') × ((k : ℕ) → k < n → t k ≡ u k)
  same_view r s = (
    r.opens.number ∙ same_number ∙ sym s.opens.number,
    λ k h. steps-say r k h ∙ same-steps k (admitted a) (admitted b) same-admitted ∙ sym (steps-say s k h),
  )

  pub same-nth : (k : ℕ) → nth_answer k a ≡ nth_answer k b
  same-nth k = rw (same_number, same-steps k a b e)
