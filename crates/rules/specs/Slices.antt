-- Tokens in two slices, and sums over tokens and classes that contracts cite.
-- Assumes nothing.
use Rattle.std.specs.Prelude.{ℕ, zero, suc, ◌+◌, false, cond, List, [], ◌∷◌, eqb}
use Rattle.rules.specs.Chart.{Token, token}

-- class numbers and lengths, one by one, as tokens
abbrev pub paired : List ℕ → List ℕ → List Token
paired [] ns = []
paired (c ∷ cs) [] = []
paired (c ∷ cs) (n ∷ ns) = token c n false ∷ paired cs ns

-- how many measures some tokens have
abbrev pub total : List Token → ℕ
total [] = 0
total (token c n s ∷ ts) = n + total ts

-- how many at the front are of class c
abbrev pub leading : ℕ → List ℕ → ℕ
leading c [] = zero
leading c (d ∷ cs) = cond (eqb c d) (suc (leading c cs)) zero

-- the n numbers from i on
abbrev pub up_from : ℕ → ℕ → List ℕ
up_from i zero = []
up_from i (suc n) = i ∷ up_from (suc i) n
