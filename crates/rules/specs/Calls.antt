-- Document 01's other calls: segments, token view, run symbol, share, label's choice.
-- Assumes nothing.
use Rattle.std.specs.Prelude.{ℕ, zero, suc, ◌+◌, ◌*◌, ◌/◌, Bool, true, false, cond, List, [], ◌∷◌, map, ltb, leb, eqb, length, drop, Option, Some, None}
use Rattle.number.specs.Questions.{first_no, accepted}
use Rattle.rules.specs.Chart.{in_domain, classes, Token, token, runs, flat, streams, counts}
use Rattle.rules.specs.Reduced.{run, standard}
use Rattle.rules.specs.Texts.{word, text}
use Rattle.rules.specs.declared.StreamSegment.{StreamSegment}
use Rattle.rules.specs.declared.ViewToken.{ViewToken}
use Rattle.rules.specs.declared.StreamBreakdownLevel.{StreamBreakdownLevel}
use Rattle.rules.specs.declared.StreamBreakdownLevel.TheVariants as Level

-- the segments of pieces and gaps of which the first begins at `at`
abbrev pub segments_at : ℕ → List Token → List StreamSegment
segments_at at [] = []
segments_at at (token zero n s ∷ ts) =
    let rest = segments_at (at + n) ts in
    cond (ltb n 2) rest (record { start = at; end = at + n; is_break = true } ∷ rest)
segments_at at (token (suc c) n s ∷ ts) = record { start = at; end = at + n; is_break = false } ∷ segments_at (at + n) ts

-- Segments: pieces, and every gap of 2 or more, lead-in and tail included, in chart order; none in a stream-free chart
unfoldable pub segments : List ℕ → List StreamSegment
segments cs = cond (eqb (streams cs) 0) [] (segments_at 0 (runs (map flat cs)))

-- the first of some tokens as a step of the view says it; ended if there is none
abbrev pub said : List Token → ViewToken
said [] = record { ended = true; class = 0; length = 0 }
said (token c n s ∷ ts) = record { ended = false; class = c; length = n }

-- Token view: step number k says the token number k (from 0) of the whole chart, breaks at both ends included, and ended past the last
unfoldable pub step_at : ℕ → List ℕ → ViewToken
step_at k m = said (drop k (runs (classes m)))

-- what a view of m holds: the measures, or none where they are refused
abbrev pub admitted : List ℕ → List ℕ
admitted m = accepted (first_no (in_domain m ∷ [])) m []

-- a step leaves the measures after its token
abbrev pub after_step : List ℕ → List ℕ
after_step m = drop (step_at 0 m).length m

-- what k steps leave, each taken from the view that the step before left
unfoldable pub after_steps : ℕ → List ℕ → List ℕ
after_steps zero m = m
after_steps (suc k) m = after_steps k (after_step m)

-- Run symbol: one run, by class, length and star
abbrev pub run_symbol : ℕ → ℕ → Bool → List ℕ
run_symbol c n s = word (run c n s)

-- Share (document 02, A.3): 10,000 × s divided by (s + sn_breaks), rounded down, s the stream measures; at most 10,000
unfoldable pub share : List ℕ → ℕ
share cs = (10000 * streams cs) / (streams cs + (counts cs).sn_breaks)

-- Label: the standard levels in the order in which they are tried, and their numbers
abbrev pub levels : List StreamBreakdownLevel
levels = Level.Detailed ∷ Level.Partial ∷ Level.Simple ∷ Level.Total ∷ []

abbrev pub level_number : StreamBreakdownLevel → ℕ
level_number Level.Detailed = 1
level_number Level.Partial = 2
level_number Level.Simple = 3
level_number Level.Total = 4

-- the first of some levels whose text is no longer than the width, if there is one
abbrev pub first_within : ℕ → List ℕ → List StreamBreakdownLevel → Option StreamBreakdownLevel
first_within width m [] = None
first_within width m (l ∷ ls) = cond (leb (length (text (standard l) m)) width) (Some l) (first_within width m ls)

-- Label's choice: the level that a label shows, if one fits
unfoldable pub label_choice : ℕ → List ℕ → Option StreamBreakdownLevel
label_choice width m = first_within width m levels
