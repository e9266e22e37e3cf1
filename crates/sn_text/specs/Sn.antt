-- SN texts from tokens: one rule with the join limit k as a number. 0 is detailed, 1 partial, 4 simplified.
-- Assumes nothing.
use Rattle.std.specs.Prelude.{ℕ, zero, suc, false, List, [], ◌∷◌, map}
use Rattle.rules.specs.Chart.{Token, token}
use Rattle.rules.specs.Reduced.{Item, gap, item, sign_of, join, absorb, drop_ones}
use Rattle.rules.specs.declared.BreakdownMode.{BreakdownMode}
use Rattle.rules.specs.declared.BreakdownMode.TheVariants as Mode

abbrev pub limit_of : BreakdownMode → ℕ
limit_of Mode.Detailed = 0
limit_of Mode.Partial = 1
limit_of Mode.Simplified = 4

-- what shows a break of n
abbrev pub break_item : ℕ → ℕ → Item
break_item zero n = gap n
break_item (suc k) n = sign_of 32 n

-- the reduced list for the join limit k, as tokens
abbrev pub shown : ℕ → List Token → List Token
shown k ts = drop_ones (absorb k (join k ts))

-- the reduced list for the join limit k, as items
abbrev pub sn_at : ℕ → List Token → List Item
sn_at k ts = map (item (break_item k)) (shown k ts)

-- a break that is shown, as tokens; none if it is 0
abbrev pub break_tokens : ℕ → List Token
break_tokens zero = []
break_tokens (suc g) = token 0 (suc g) false ∷ []
