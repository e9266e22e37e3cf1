-- For the token stepper: how many measures at the front are of one class, and what token that makes.
-- Assumes nothing.
use Rattle.std.proofs.Common.{◌≡◌, ℕ, suc, ◌+◌, ◌<◌, ◌≤◌, true, false, List, length, get_or, drop, refl, add-one, arith, drop_of_length-le}
use Rattle.std.proofs.Common.{drop-cons, eq-eqb, ne_eqb}
use Rattle.rules.specs.Chart.{class_of, classes}
use Rattle.rules.specs.Calls.{step_at}
use Rattle.rules.specs.Slices.{leading}
use Rattle.rules.proofs.View.{first_run}

module _ (m : List ℕ) (i : ℕ) where
  module _ (c : ℕ) where
    -- a measure of another class ends the run
    pub run-stop : i < length m → (c ≡ class_of (get_or m i 0) → ⊥) → leading c (classes (drop i m)) ≡ 0
    run-stop h other = rw (drop-cons m i 0, ne_eqb _ _ other)

    -- one of the class makes it longer
    pub run_more : i < length m → c ≡ class_of (get_or m i 0) → leading c (classes (drop i m)) ≡ leading c (classes (drop (i + 1) m)) + 1
    run_more h same = rw (add-one i, drop-cons m i 0, eq-eqb _ _ same, add-one)

    pub run_end : length m ≤ i → leading c (classes (drop i m)) ≡ 0
    run_end h = rw (drop_of_length-le m h)

  pub ended_at : length m ≤ i → record { ended = true; class = 0; length = 0 } ≡ step_at 0 (drop i m)
  unfolding step_at
  ended_at h = rw (drop_of_length-le m h)

  -- the token that begins at i is as long as its class goes on
  pub token-from : i < length m → (c n : ℕ) → c ≡ class_of (get_or m i 0) → n ≡ leading c (classes (drop i m))
      → record { ended = false; class = c; length = n } ≡ step_at 0 (drop i m)
  unfolding step_at
  token-from h c n same e = rw (e, drop-cons m i 0, ← same, eq-eqb c c refl, first_run c 1, one-add)
    where
      one-add : (k : ℕ) → 1 + k ≡ suc k
      one-add k = omega arith
