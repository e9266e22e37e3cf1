-- What a view holds, opened and after any number of steps. Nothing here speaks of code.
-- Assumes nothing.
use Rattle.std.proofs.Common.{◌≡◌, ℕ, zero, suc, ◌≤◌, true, List, [], ◌∷◌, length, refl, sym, ap, ◌∙◌, arith, length-drop, drop_of_length-le}
use lib.Dec.{leb, eqb}
use lib.ListN.{length-map}
use borrow.Author.Tests.{leb-true}
use Rattle.number.specs.Questions.{first_no}
use Rattle.number.proofs.Split.{split}
use Rattle.rules.specs.Chart.{in_domain, class_of, classes, runs_from, runs}
use Rattle.rules.specs.Calls.{step_at, after_step, after_steps, admitted}
use Rattle.rules.specs.declared.ViewToken.{ViewToken}
use Rattle.rules.proofs.Domain.{within}
use Rattle.rules.proofs.View.{first_run, steps-follow, run_fits}
use Rattle.token_view.specs.Promises.{Opening, Step}

module _ (m : List ℕ) where
  -- accepted measures are kept whole, of refused ones none is left
  pub kept : first_no (in_domain m ∷ []) ≡ 0 → m ≡ admitted m
  kept e = rw e

  pub none_kept : (first_no (in_domain m ∷ []) ≡ 0 → ⊥) → [] ≡ admitted m
  none_kept other = split (leb (length m) 1048576) (λ e. absurd (other (rw e))) (λ e. rw e)

  pub few : length (admitted m) ≤ 1048576
  few = split (leb (length m) 1048576) (λ e. rw e (leb-true _ _ e)) (λ e. rw e (omega arith))

-- a step past the end says ended and leaves an empty view
pub past_end : {said : ViewToken} {next : List ℕ} → Step [] said next → (said ≡ record { ended = true; class = 0; length = 0 }) × (next ≡ [])
unfolding step_at
past_end s = (s.token, s.left)

-- no token is longer than the measures
pub step-fits : (m : List ℕ) → (step_at 0 m).length ≤ length m
unfolding step_at
step-fits [] = omega arith
step-fits (d ∷ m) = rw (first_run (class_of d) 1 (classes m)) (omega (arith, run_fits m 0 (class_of d) (omega arith)))

runs-few : (c n : ℕ) (cs : List ℕ) → length (runs_from c n cs) ≤ suc (length cs)
runs-few c n [] = omega arith
runs-few c n (d ∷ cs) = split (eqb c d) (λ e. rw e (omega (arith, runs-few c (suc n) cs))) (λ e. rw e (omega (arith, runs-few d 1 cs)))

tokens-few : (m : List ℕ) → length (runs (classes m)) ≤ length m
tokens-few [] = omega arith
tokens-few (d ∷ m) = omega (arith, runs-few (class_of d) 1 (classes m), length-map m class_of)

-- there are no more tokens than measures, so after as many steps every step says ended
ended-after : (k : ℕ) (m : List ℕ) → length m ≤ k → step_at k m ≡ record { ended = true; class = 0; length = 0 }
unfolding step_at
ended-after k m h =
    let few-enough : length (runs (classes m)) ≤ k = omega (arith, tokens-few m) in
    rw (drop_of_length-le (runs (classes m)) few-enough)

pub ended-alike : (k : ℕ) (m : List ℕ) → length m ≤ k → step_at (length m) m ≡ step_at k m
ended-alike k m h = ended-after (length m) m (omega arith) ∙ sym (ended-after k m h)

-- one step more
pub step-more : (k : ℕ) (m : List ℕ) → after_step (after_steps k m) ≡ after_steps (suc k) m
unfolding after_steps
step-more zero m = refl
step-more (suc k) m = step-more k (after_step m)

steps-few : (k : ℕ) (m : List ℕ) → length (after_steps k m) ≤ length m
unfolding after_steps
steps-few zero m = omega arith
steps-few (suc k) m = omega (arith, steps-few k (after_step m), length-drop (step_at 0 m).length m)

-- a view of the chart m, opened and stepped k times
pub record After (m : List ℕ) (k : ℕ) (view : List ℕ) : Type 0 where
  pub holds : view ≡ after_steps k (admitted m)

pub after_none : {m view : List ℕ} {refused : ℕ} → Opening m refused view → After m 0 view
unfolding after_steps
after_none o = record { holds = o.left }

module _ {m view next : List ℕ} {k : ℕ} {said : ViewToken} (a : After m k view) (s : Step view said next) where
  -- it is in the domain, so it is stepped whole
  whole : admitted view ≡ after_steps k (admitted m)
  whole = sym (kept view (within view (omega (arith, ap length a.holds, steps-few k (admitted m), few m)))) ∙ a.holds

  pub after_more : After m (suc k) next
  after_more = record { holds = s.left ∙ ap after_step whole ∙ step-more k (admitted m) }

  pub step-says : said ≡ step_at k (admitted m)
  step-says = s.token ∙ ap (step_at 0) whole ∙ steps-follow k (admitted m)
