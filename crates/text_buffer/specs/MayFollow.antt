-- How a chart's tokens follow each other.
-- Assumes nothing.
use Rattle.std.specs.Prelude.{ℕ, ◌≤◌, ◌≡◌, ◌≢◌, List, [], ◌∷◌}
use Rattle.rules.specs.Chart.{Token, token, class}

-- what may stand behind a token of class c, at most 4: a run, and behind a run also a break, which has a length; the last is a run
abbrev pub MayFollow : ℕ → List Token → Type 0
MayFollow c [] = (c ≢ 0) × (c ≤ 4)
MayFollow c (token d n s ∷ ts) = (d ≡ 0 → (c ≢ 0) × (1 ≤ n)) × MayFollow d ts × (c ≤ 4)

-- no tokens, or a run first, as behind a break
abbrev pub Alternates : List Token → Type 0
Alternates [] = Unit {0}
Alternates (t ∷ ts) = MayFollow 0 (t ∷ ts)

-- the first token's class; a break's if there is none
abbrev pub first_class : List Token → ℕ
first_class [] = 0
first_class (t ∷ ts) = class t
