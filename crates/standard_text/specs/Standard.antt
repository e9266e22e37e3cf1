-- Standard texts from tokens: one rule with the join limit as a number, 0 but for simple (1), and a flag: gaps as signs, or by length (detailed).
-- Assumes nothing.
use Rattle.std.specs.Prelude.{ℕ, zero, suc, ◌+◌, Bool, true, false}
use mathlib.Core.List.{List, [], ◌∷◌, ◌++◌, map, foldr}
use Rattle.rules.specs.Bytes.{bytes}
use Rattle.rules.specs.Chart.{Token, token}
use Rattle.rules.specs.Reduced.{Item, gap, item, sign_of, join, sum_of}
use Rattle.rules.specs.declared.Kind.TheVariants.{Standard as standard}
use Rattle.rules.specs.Texts.{part, strung, render}
use Rattle.rules.specs.declared.StreamBreakdownLevel.TheVariants as Level
use Rattle.rules.specs.Slices.{paired}

-- a token before pieces and gaps: a run is added to a piece that follows
abbrev pub glue : Token → List Token → List Token
glue (token zero n s) ps = token zero n s ∷ ps
glue (token (suc c) n s) [] = token 1 n s ∷ []
glue (token (suc c) n s) (token zero m t ∷ ps) = token 1 n s ∷ token zero m t ∷ ps
glue (token (suc c) n s) (token (suc d) m t ∷ ps) = token 1 (n + m) s ∷ ps

-- tokens as pieces and gaps, classes ignored
abbrev pub merged : List Token → List Token
merged ts = foldr glue [] ts

-- what shows a gap of n
abbrev pub gap_item : Bool → ℕ → Item
gap_item true n = sign_of 31 n
gap_item false n = gap n

-- the standard text of some tokens, or "No Streams!" if there are none
abbrev pub standard_of : Bool → ℕ → List Token → List ℕ
standard_of b k [] = bytes "No Streams!"
standard_of b k (t ∷ ts) = strung part (map (item (gap_item b)) (join k (merged (t ∷ ts))))

-- Total, for n stream measures
abbrev pub total_text : ℕ → List ℕ
total_text n = render (standard Level.Total) (sum_of n)

-- the standard text that a piece of n measures and star s and the tokens behind it make, with the join limit k
abbrev pub standard_from : Bool → ℕ → ℕ → Bool → List Token → List ℕ
standard_from b k n s ts = strung part (map (item (gap_item b)) (join k (glue (token 1 n s) (merged ts))))

-- the standard text of an open piece, of the tokens in two slices, and of what follows
abbrev pub standard_part : Bool → ℕ → ℕ → Bool → List ℕ → List ℕ → List Token → List ℕ
standard_part b k n s cs ns more = standard_from b k n s (paired cs ns ++ more)
