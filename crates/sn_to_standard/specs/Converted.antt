-- Document 02, A.5: the gaps that SN detailed text does not show, and the standard detailed text.
-- Assumes nothing.
use Rattle.std.specs.Prelude.{ℕ, Bool, true, false, cond, not, ◌&&◌, ◌||◌, List, [], ◌∷◌, ◌++◌, map, leb, eqb}
use Rattle.number.specs.Questions.{Question, question}
use Rattle.rules.specs.Chart.{Token, token, class, flat}
use Rattle.rules.specs.Slices.{total}
use Rattle.rules.specs.Reduced.{gap, item}
use Rattle.rules.specs.declared.Kind.TheVariants.{Standard as standard}
use Rattle.rules.specs.Texts.{render}
use Rattle.rules.specs.declared.StreamBreakdownLevel.TheVariants as Level
use Rattle.sn_to_standard.specs.Reader.{Reading, outside, inside, reading}

-- two runs; of one class; of different classes
abbrev pub both_runs : Token → Token → Bool
both_runs t u = leb 1 (class u) && leb 1 (class t)

abbrev pub one_class : Token → Token → Bool
one_class t u = both_runs t u && eqb (class t) (class u)

abbrev pub two_classes : Token → Token → Bool
two_classes t u = both_runs t u && not (eqb (class t) (class u))

-- a gap of 1 behind t, if p holds of t and its neighbour
abbrev pub gap_behind : (Token → Token → Bool) → Token → List Token → List Token
gap_behind p t [] = []
gap_behind p t (u ∷ ts) = cond (p t u) (token 0 1 false ∷ []) []

-- some tokens with a gap of 1 between all neighbours of which p holds
abbrev pub gaps_where : (Token → Token → Bool) → List Token → List Token
gaps_where p [] = []
gaps_where p (t ∷ ts) = t ∷ gap_behind p t ts ++ gaps_where p ts

-- "Neighbouring runs of one class had a gap of 1"; an undecided gap is taken as 0
abbrev pub with_gaps : List Token → List Token
with_gaps ts = gaps_where one_class ts

-- "Between different classes the gap was 0 or 1 and nobody can tell"
abbrev pub undecided_behind : Token → List Token → Bool
undecided_behind t [] = false
undecided_behind t (u ∷ ts) = two_classes t u

abbrev pub undecided : List Token → Bool
undecided [] = false
undecided (t ∷ ts) = undecided_behind t ts || undecided ts

-- inside the rules, with at most 1,048,576 measures? 18
abbrev pub within_rules : Reading → Question
within_rules outside = question 18 false
within_rules (inside ts) = question 18 (leb (total (with_gaps ts)) 1048576)

-- decided? 19
abbrev pub decided : Reading → Question
decided outside = question 19 true
decided (inside ts) = question 19 (not (undecided ts))

-- a run as a piece: classes ignored
abbrev pub piece : Token → Token
piece (token c n s) = token (flat c) n s

-- the standard detailed text of what is read
abbrev pub converted_of : Reading → List ℕ
converted_of outside = []
converted_of (inside ts) = render (standard Level.Detailed) (map (item gap) (map piece (with_gaps ts)))

unfoldable pub converted : List ℕ → List ℕ
converted sn = converted_of (reading sn)
