-- What the functions that add up counts ask and promise.
-- Assumes nothing.
use Rattle.std.specs.Prelude.{ℕ, zero, suc, ◌+◌, ◌≤◌, ◌≡◌, cond, List, [], ◌∷◌, eqb, ltb, length}
use Rattle.rules.specs.Chart.{classes, active_part, Token, token, tokens, wide_gaps}
use Rattle.measures.specs.Active.{LedIn}
use Rattle.rules.specs.declared.StreamCounts.{StreamCounts}
use Rattle.counts.specs.declared.Sums.{Sums}

-- how many measures of class c some tokens hold
abbrev pub held : ℕ → List Token → ℕ
held c [] = 0
held c (token d n s ∷ ts) = cond (eqb c d) (n + held c ts) (held c ts)

-- measures of each class that some tokens hold, and those of their gaps of 2 or more
abbrev pub sums_of : List Token → Sums
sums_of ts =
    record { run16 = held 1 ts; run20 = held 2 ts; run24 = held 3 ts; run32 = held 4 ts; breaks = held 0 ts; wide = wide_gaps ts }

-- the stream measures that some counts hold
abbrev pub stream_measures : StreamCounts → ℕ
stream_measures k = k.run16_streams + k.run20_streams + k.run24_streams + k.run32_streams

-- what a gap of n adds to the gaps of 2 or more
abbrev pub wide_of : ℕ → ℕ
wide_of n = cond (ltb n 2) 0 n

-- r is that, and no more than the gap
pub record Wide (n r : ℕ) : Type 0 where
  pub gap : r ≡ wide_of n
  pub low : r ≤ n

-- the last of c and cs is a stream measure
abbrev pub Ends : ℕ → List ℕ → Type 0
Ends zero [] = ⊥
Ends (suc c) [] = Unit {0}
Ends c (d ∷ cs) = Ends d cs

-- measures of the domain, the last a stream measure, or none
pub record Closed (m : List ℕ) : Type 0 where
  pub few : length m ≤ 1048576
  pub ends : Ends 1 (classes m)

-- a chart of the domain, its lead-in, its active part, and what its tokens hold
pub record Summed (m : List ℕ) (lead : ℕ) (part : List ℕ) (sums : Sums) : Type 0 where
  pub few : length m ≤ 1048576
  pub led : LedIn m lead
  pub active : part ≡ active_part m
  pub held : sums ≡ sums_of (tokens (classes m))
