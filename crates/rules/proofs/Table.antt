-- Document 01's charts to prove, computed: one table, one theorem over it. A row is a chart, its counts, and its seven texts.
-- Assumes nothing.
use Prim.Native.Nat.{ℕ}
use Prim.Native.String.{String}
use mathlib.Core.Path.{◌≡◌, refl}
use mathlib.Core.Bool.{true, false}
use mathlib.Core.List.{List, [], ◌∷◌, ◌++◌, map}
use lib.ListN.{replicate}
use Rattle.number.specs.Digits.{digits}
use Rattle.rules.specs.Bytes.{bytes}
use Rattle.rules.specs.Chart.{counts, count_numbers, class_of, classes, active, tokens}
use Rattle.rules.specs.Reduced.{pieces, Kind, standard, reduced}
use Rattle.rules.specs.Texts.{render, text, pass_kinds}
use Rattle.rules.specs.Calls.{share, segments}
use Rattle.rules.specs.declared.StreamSegment.{StreamSegment}
use Rattle.rules.specs.declared.StreamBreakdownLevel.TheVariants as Level

pub data Row : Type 0 where
  row : List ℕ → List ℕ → List (List ℕ) → Row

-- k quiet measures
abbrev q : ℕ → List ℕ
q k = replicate k 0

abbrev printed : List ℕ → List ℕ → List String → Row
printed m ns ts = row m ns (map bytes ts)

abbrev kinds : List Kind
kinds = pass_kinds ++ (standard Level.Total ∷ [])

-- the row by the definitions
pub computed : Row → Row
unfolding counts
computed (row m ns ts) =
    row m (count_numbers (counts (classes m))) (map (λ k. text k m) kinds)

-- the chart of case 12
abbrev case12 : List ℕ
case12 = 16 ∷ 16 ∷ q 1 ++ (20 ∷ 20 ∷ q 3 ++ (16 ∷ []))

abbrev piece : ℕ → ℕ → StreamSegment
piece a b = record { start = a; end = b; is_break = false }

abbrev break : ℕ → ℕ → StreamSegment
break a b = record { start = a; end = b; is_break = true }

abbrev table : List Row
table =
    printed [] (0 ∷ 0 ∷ 0 ∷ 0 ∷ 0 ∷ 0 ∷ 0 ∷ 0 ∷ []) ("" ∷ "" ∷ "" ∷ "No Streams!" ∷ "No Streams!" ∷ "No Streams!" ∷ "No Streams!" ∷ [])
    ∷ printed (15 ∷ []) (0 ∷ 0 ∷ 0 ∷ 0 ∷ 0 ∷ 0 ∷ 1 ∷ 0 ∷ []) ("" ∷ "" ∷ "" ∷ "No Streams!" ∷ "No Streams!" ∷ "No Streams!" ∷ "No Streams!" ∷ [])
    ∷ printed (16 ∷ []) (1 ∷ 0 ∷ 0 ∷ 0 ∷ 0 ∷ 0 ∷ 0 ∷ 0 ∷ []) ("1" ∷ "1" ∷ "1" ∷ "1" ∷ "1" ∷ "1" ∷ "1 Total" ∷ [])
    ∷ printed (19 ∷ 20 ∷ []) (1 ∷ 1 ∷ 0 ∷ 0 ∷ 0 ∷ 0 ∷ 0 ∷ 0 ∷ []) ("1 ~1~" ∷ "1 ~1~" ∷ "1 ~1~" ∷ "2" ∷ "2" ∷ "2" ∷ "2 Total" ∷ [])
    ∷ printed (16 ∷ q 1 ++ (16 ∷ [])) (2 ∷ 0 ∷ 0 ∷ 0 ∷ 0 ∷ 1 ∷ 0 ∷ 0 ∷ []) ("1 1" ∷ "3*" ∷ "3*" ∷ "1-1" ∷ "1-1" ∷ "3*" ∷ "2 Total" ∷ [])
    ∷ printed (16 ∷ q 4 ++ (16 ∷ [])) (2 ∷ 0 ∷ 0 ∷ 0 ∷ 4 ∷ 4 ∷ 0 ∷ 0 ∷ []) ("1 (4) 1" ∷ "1 - 1" ∷ "6*" ∷ "1 (4) 1" ∷ "1-1" ∷ "1-1" ∷ "2 Total" ∷ [])
    ∷ printed (16 ∷ q 5 ++ (16 ∷ [])) (2 ∷ 0 ∷ 0 ∷ 0 ∷ 5 ∷ 5 ∷ 0 ∷ 0 ∷ []) ("1 (5) 1" ∷ "1 / 1" ∷ "1 / 1" ∷ "1 (5) 1" ∷ "1/1" ∷ "1/1" ∷ "2 Total" ∷ [])
    ∷ printed (16 ∷ q 32 ++ (16 ∷ [])) (2 ∷ 0 ∷ 0 ∷ 0 ∷ 32 ∷ 32 ∷ 0 ∷ 0 ∷ []) ("1 (32) 1" ∷ "1 / 1" ∷ "1 / 1" ∷ "1 (32) 1" ∷ "1 | 1" ∷ "1 | 1" ∷ "2 Total" ∷ [])
    ∷ printed (16 ∷ q 33 ++ (16 ∷ [])) (2 ∷ 0 ∷ 0 ∷ 0 ∷ 33 ∷ 33 ∷ 0 ∷ 0 ∷ []) ("1 (33) 1" ∷ "1 | 1" ∷ "1 | 1" ∷ "1 (33) 1" ∷ "1 | 1" ∷ "1 | 1" ∷ "2 Total" ∷ [])
    ∷ printed (32 ∷ q 2 ++ (16 ∷ [])) (1 ∷ 0 ∷ 0 ∷ 1 ∷ 2 ∷ 2 ∷ 0 ∷ 0 ∷ []) ("=1= (2) 1" ∷ "=1= - 1" ∷ "=3=* 1" ∷ "1 (2) 1" ∷ "1-1" ∷ "1-1" ∷ "2 Total" ∷ [])
    ∷ printed (q 2 ++ (16 ∷ [])) (1 ∷ 0 ∷ 0 ∷ 0 ∷ 2 ∷ 0 ∷ 2 ∷ 0 ∷ []) ("1" ∷ "1" ∷ "1" ∷ "1" ∷ "1" ∷ "1" ∷ "1 Total" ∷ [])
    ∷ printed (q 1 ++ (16 ∷ [])) (1 ∷ 0 ∷ 0 ∷ 0 ∷ 0 ∷ 0 ∷ 1 ∷ 0 ∷ []) ("1" ∷ "1" ∷ "1" ∷ "1" ∷ "1" ∷ "1" ∷ "1 Total" ∷ [])
    ∷ printed case12 (3 ∷ 2 ∷ 0 ∷ 0 ∷ 3 ∷ 4 ∷ 0 ∷ 0 ∷ []) ("2 ~2~ (3) 1" ∷ "2 ~2~ - 1" ∷ "2 ~5~* 1" ∷ "2-2 (3) 1" ∷ "2-2-1" ∷ "5*-1" ∷ "5 Total" ∷ [])
    ∷ []

pub as-printed :
    (map computed table ≡ table)
    × (share (classes case12) ≡ 5555)
    × (segments (classes case12) ≡ piece 0 2 ∷ piece 3 5 ∷ break 5 8 ∷ piece 8 9 ∷ [])
unfolding computed counts text render reduced class_of active tokens pieces digits share segments
as-printed = (refl, refl, refl)
