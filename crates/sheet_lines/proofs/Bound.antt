-- How long the texts of an accepted record and their lines are.
-- Assumes nothing.
use Prim.Native.Nat.{ℕ, ◌+◌}
use mathlib.Core.Path.{◌≡◌, refl}
use mathlib.Core.List.{List, [], ◌∷◌}
use native.Mathlib.Omega.{arith}
use lib.ListN.{length, length-append}
use Rattle.rules.specs.declared.Kind.{Kind}
use Rattle.rules.specs.Texts.{text, end_to_end, lengths_of}
use Rattle.counts_line.specs.CountsLine.{line}
use Rattle.counts_line.proofs.Bound.{line-length}
use Rattle.sheet_lines.specs.Sheet.{text_lines}
use Rattle.std.specs.List.{sum}
use Rattle.std.proofs.lemmas.List.Sums.{sum_by-cons}

module _ (m : List ℕ) where
  pub sum-lengths : (ks : List Kind) → sum (lengths_of ks m) ≡ length (end_to_end ks m)
  sum-lengths [] = refl
  sum-lengths (k ∷ ks) = omega (arith, sum_by-cons (λ n. n) (length (text k m)) (lengths_of ks m), length-append (text k m) (end_to_end ks m), sum-lengths ks)

  pub lines-length : (ks : List Kind) → length (text_lines ks m) ≡ length (end_to_end ks m) + length ks
  lines-length [] = refl
  lines-length (k ∷ ks) =
      omega (arith, length-append (line (text k m)) (text_lines ks m), line-length (text k m), length-append (text k m) (end_to_end ks m), lines-length ks)
