-- Steps of the token view: step k, taken from the view that k steps left, says the chart's token k.
-- Assumes nothing.
use Prim.Native.Nat.{ℕ, zero, suc, ◌+◌, ◌≤◌}
use mathlib.Core.Path.{◌≡◌, refl, ap, ◌∙◌}
use mathlib.Core.Bool.{false}
use mathlib.Core.List.{List, [], ◌∷◌}
use native.Mathlib.Nat.{add-zero, add-suc, suc-add}
use native.Mathlib.Omega.{arith}
use lib.Dec.{eqb}
use lib.ListN.{length, drop, length-map, length-drop}
use Rattle.number.proofs.Split.{split}
use Rattle.rules.specs.Chart.{class_of, classes, Token, token, runs_from, runs}
use Rattle.rules.specs.Slices.{leading}
use Rattle.rules.specs.Calls.{said, step_at, after_step, after_steps}
use Rattle.rules.proofs.Steps.{map-drop}

-- the first run, and those after it
pub first_run : (c n : ℕ) (cs : List ℕ) → runs_from c n cs ≡ token c (n + leading c cs) false ∷ runs (drop (leading c cs) cs)
first_run c n [] = rw add-zero
first_run c n (d ∷ cs) =
    split (eqb c d)
    (λ e. rw (e, add-suc, ← (suc-add n (leading c cs))) (first_run c (suc n) cs))
    (λ e. rw (e, add-zero))

one-add : (n : ℕ) → 1 + n ≡ suc n
one-add n = omega arith

runs_after : (m : List ℕ) → runs (classes (after_step m)) ≡ drop 1 (runs (classes m))
unfolding step_at
runs_after [] = refl
runs_after (d ∷ m) = rw (first_run (class_of d) 1 (classes m)) (rw (map-drop, one-add) refl)

drop_more : (k : ℕ) (ts : List Token) → drop k (drop 1 ts) ≡ drop (suc k) ts
drop_more zero [] = refl
drop_more (suc k) [] = refl
drop_more k (t ∷ ts) = refl

pub steps-follow : (k : ℕ) (m : List ℕ) → step_at 0 (after_steps k m) ≡ step_at k m
unfolding step_at after_steps
steps-follow zero m = refl
steps-follow (suc k) m = steps-follow k (after_step m) ∙ ap said (ap (drop k) (runs_after m) ∙ drop_more k (runs (classes m)))

-- charts of equal classes: every step says the same
pub same-steps : (k : ℕ) (a b : List ℕ) → classes a ≡ classes b → step_at k a ≡ step_at k b
unfolding step_at
same-steps k a b e = rw e

leading-short : (c : ℕ) (cs : List ℕ) → leading c cs ≤ length cs
leading-short c [] = omega arith
leading-short c (d ∷ cs) = split (eqb c d) (λ e. rw e (omega (arith, leading-short c cs))) (λ e. rw e (omega arith))

module _ (m : List ℕ) (i c : ℕ) where
  pub run_fits : i ≤ length m → i + leading c (classes (drop i m)) ≤ length m
  run_fits h = omega (arith, leading-short c (classes (drop i m)), length-map (drop i m) class_of, length-drop i m)
