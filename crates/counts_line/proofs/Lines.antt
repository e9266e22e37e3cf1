-- The counts line has no byte 0A before its end.
-- Assumes nothing.
use Prim.Native.Nat.{ℕ, zero, suc, ◌-◌}
use mathlib.Core.Path.{refl}
use mathlib.Core.List.{List, [], ◌∷◌}
use lib.ListN.{length, replicate}
use Rattle.number.specs.Digits.{digits, padded}
use Rattle.number.proofs.Each.{none, ◌&◌, each_append}
use Rattle.rules.specs.Chart.{count_numbers}
use Rattle.rules.specs.declared.StreamCounts.{StreamCounts}
use Rattle.rules.proofs.Lines.{OneLine, digits-line}
use Rattle.counts_line.specs.CountsLine.{parted_by_spaces}

spaces-line : (k : ℕ) → OneLine (replicate k 32)
spaces-line zero = none
spaces-line (suc k) = refl & spaces-line k

padded-line : (width n : ℕ) → OneLine (padded width n)
unfolding padded
padded-line width n = each_append (spaces-line (width - length (digits n))) (digits-line n)

spaced-line : (width : ℕ) (ns : List ℕ) → OneLine (parted_by_spaces width ns)
spaced-line width [] = none
spaced-line width (n ∷ []) = padded-line width n
spaced-line width (n ∷ k ∷ ns) = each_append (padded-line width n) (refl & spaced-line width (k ∷ ns))

pub counts-line : (width : ℕ) (c : StreamCounts) → OneLine (parted_by_spaces width (count_numbers c))
counts-line width c = spaced-line width (count_numbers c)
