-- Question 1: a chart within the domain, beyond it, and charts of equal classes; with question 12, for densities that are read.
-- Assumes nothing.
use Prim.Native.Nat.{ℕ, ◌≤◌, ◌<◌}
use mathlib.Core.Path.{◌≡◌, ap}
use mathlib.Core.List.{List, [], ◌∷◌}
use lib.Dec.{leb}
use lib.ListN.{length}
use borrow.Author.Tests.{le-leb, lt-leb}
use Rattle.number.specs.Questions.{Question, question, first_no}
use Rattle.rules.specs.Chart.{in_domain, densities_no, classes}
use Rattle.rules.specs.Calls.{admitted}
use Rattle.rules.proofs.Demand.{same_length}

module _ (m : List ℕ) where
  pub within : length m ≤ 1048576 → first_no (in_domain m ∷ []) ≡ 0
  within h = rw (le-leb (length m) 1048576 h)

  pub beyond : 1048576 < length m → first_no (in_domain m ∷ []) ≡ 1
  beyond h = rw (lt-leb (length m) 1048576 h)

  -- all measures of a chart of the domain are admitted, and none of a longer one
  pub all-admitted : length m ≤ 1048576 → admitted m ≡ m
  all-admitted h = rw (le-leb (length m) 1048576 h)

  pub none-admitted : 1048576 < length m → admitted m ≡ []
  none-admitted h = rw (lt-leb (length m) 1048576 h)

-- questions 1 and 12, by the number n of the densities
module _ (m old : List ℕ) {n : ℕ} (e : length m ≡ n) where
  pub many-densities : 1048576 < n → densities_no m old ≡ 1
  many-densities h = rw (e, lt-leb n 1048576 h)

  module _ (few : n ≤ 1048576) where
    pub no-density-place : length old < n → densities_no m old ≡ 12
    no-density-place h = rw (e, le-leb n 1048576 few, lt-leb n (length old) h)

    pub densities-fit : n ≤ length old → densities_no m old ≡ 0
    densities-fit h = rw (e, le-leb n 1048576 few, le-leb n (length old) h)

-- question 1 concerns the number of measures alone, and so does every answer that follows it
pub same-domain : (a b : List ℕ) → classes a ≡ classes b → in_domain a ≡ in_domain b
same-domain a b e = ap (λ (l : ℕ). question 1 (leb l 1048576)) (same_length a b e)

pub same_after : (qs : List Question) (a b : List ℕ) → classes a ≡ classes b → first_no (in_domain a ∷ qs) ≡ first_no (in_domain b ∷ qs)
same_after qs a b e = ap (λ (q : Question). first_no (q ∷ qs)) (same-domain a b e)
