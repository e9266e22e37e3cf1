-- Tokens written in two slices, read back from there.
-- Assumes nothing.
use Prim.Native.Nat.{ℕ, ◌≤◌}
use mathlib.Core.Path.{◌≡◌, refl, sym, ◌∙◌}
use mathlib.Core.List.{List, map, append-nil}
use native.Mathlib.Omega.{arith}
use lib.ListN.{length, take, drop, length-append, length-map}
use lib.Seq.{take_at, length-take-le, drop-length}
use Rattle.number.specs.Questions.{filled}
use Rattle.rules.specs.Chart.{classes, Token, class, len, runs}
use Rattle.rules.proofs.Cost.{total_runs}
use Rattle.rules.specs.Slices.{paired}
use Rattle.scan.specs.Scan.{InSlices, FirstRuns, Paired}
use Rattle.counts.proofs.TokenSums.{paired-runs}

module _ {ts : List Token} {k : ℕ} {cs₀ cs₁ ns₀ ns₁ : List ℕ} (w : InSlices ts k cs₀ cs₁ ns₀ ns₁) where
  within : (f : Token → ℕ) (old new : List ℕ) → new ≡ filled old (map f ts) → k ≤ length new
  within f old new e = rw (e, w.number, length-append, length-map) (omega arith)

  front : (f : Token → ℕ) (old new : List ℕ) → new ≡ filled old (map f ts) → take k new ≡ map f ts
  front f old new e = rw e (take_at (map f ts) (drop (length (map f ts)) old) k (length-map ts f ∙ sym w.number))

  pub within_c : k ≤ length cs₁
  within_c = within class cs₀ cs₁ w.in_classes

  pub within_n : k ≤ length ns₁
  within_n = within len ns₀ ns₁ w.in_lengths

  pub back : (m : List ℕ) → ts ≡ runs (classes m) → paired (take k cs₁) (take k ns₁) ≡ ts
  back m e = rw (front class cs₀ cs₁ w.in_classes, front len ns₀ ns₁ w.in_lengths, e) (paired-runs (classes m))

  pub pairs : (m : List ℕ) → ts ≡ runs (classes m) → length m ≤ 1048576 → Paired (take k cs₁) (take k ns₁)
  pairs m e h =
      record {
        long = length-take-le k cs₁ within_c ∙ sym (length-take-le k ns₁ within_n);
        few = rw (back m e, e, total_runs, length-map) h;
      }

-- all runs are the first runs
pub all_first : (m : List ℕ) (most : ℕ) {k : ℕ} {cs₀ cs₁ ns₀ ns₁ : List ℕ} → InSlices (runs (classes m)) k cs₀ cs₁ ns₀ ns₁
    → FirstRuns m most cs₀ cs₁ ns₀ ns₁ (record { tokens = k; next = length m })
all_first m most w =
    record {
      rest = rw (drop-length, back w m refl, append-nil);
      within = omega arith;
      fits = within_c w;
      many = λ h. absurd (omega arith);
      all = λ h. w;
    }
