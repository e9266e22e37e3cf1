-- Tokens in two slices, one by one.
-- Assumes nothing.
use Prim.Native.Nat.{ℕ, zero, suc, ◌<◌, ◌≤◌}
use mathlib.Core.Path.{◌≡◌, refl}
use mathlib.Core.Bool.{false}
use mathlib.Core.List.{List, [], ◌∷◌}
use native.Mathlib.Nat.{not-suc-le-zero, le_of_suc-le-suc}
use native.Mathlib.Omega.{arith}
use lib.ListN.{length, drop, get_or}
use Rattle.rules.specs.Chart.{token}
use Rattle.rules.specs.Slices.{paired}

-- the token at i, and those after it
pub slices-next : (cs ns : List ℕ) (i : ℕ) → length cs ≡ length ns → i < length cs → drop i (paired cs ns)
    ≡ token (get_or cs i 0) (get_or ns i 0) false ∷ drop (suc i) (paired cs ns)
slices-next [] ns i e h = absurd (not-suc-le-zero h)
slices-next (c ∷ cs) [] i e h = absurd (omega arith)
slices-next (c ∷ cs) (n ∷ ns) zero e h = refl
slices-next (c ∷ cs) (n ∷ ns) (suc i) e h = slices-next cs ns i (omega arith) (le_of_suc-le-suc h)

-- none behind the last
pub none_left : (cs ns : List ℕ) (i : ℕ) → length cs ≤ i → drop i (paired cs ns) ≡ []
none_left [] ns zero h = refl
none_left [] ns (suc i) h = refl
none_left (c ∷ cs) ns zero h = absurd (not-suc-le-zero h)
none_left (c ∷ cs) [] (suc i) h = refl
none_left (c ∷ cs) (n ∷ ns) (suc i) h = none_left cs ns i (le_of_suc-le-suc h)
