-- Document 01 on one chart, up to its counts. A chart is the list m of its densities; every rule but Class speaks of the list cs of their classes.
-- Assumes nothing.
use Rattle.std.specs.Prelude.{ℕ, zero, suc, ◌+◌, Bool, false, cond, List, [], ◌∷◌, map, ltb, leb, eqb, length, take, drop}
use Rattle.number.specs.Questions.{Question, question, first_no}
use Rattle.rules.specs.declared.StreamCounts.{StreamCounts}
use Rattle.rules.specs.declared.RunDensity.{RunDensity}
use Rattle.rules.specs.declared.RunDensity.TheVariants.{Run32, Run24, Run20, Run16, Break}

-- The domain. At most 1,048,576 measures? 1
abbrev pub in_domain : List ℕ → Question
in_domain m = question 1 (leb (length m) 1048576)

-- A place in the lent density slice `old` for each? 12
abbrev pub density_places : List ℕ → List ℕ → Question
density_places m old = question 12 (leb (length m) (length old))

-- the first no to densities m that are to go to the lent slice `old`
abbrev pub densities_no : List ℕ → List ℕ → ℕ
densities_no m old = first_no (in_domain m ∷ density_places m old ∷ [])

-- Class: 0, break, below 16; 1: 16 to 19; 2: 20 to 23; 3: 24 to 31; 4: 32 and more
unfoldable pub class_of : ℕ → ℕ
class_of d = cond (ltb d 16) 0 (cond (ltb d 20) 1 (cond (ltb d 24) 2 (cond (ltb d 32) 3 4)))

abbrev pub classes : List ℕ → List ℕ
classes m = map class_of m

-- the paper's number of each class
abbrev pub class_number : RunDensity → ℕ
class_number Break = 0
class_number Run16 = 1
class_number Run20 = 2
class_number Run24 = 3
class_number Run32 = 4

-- Lead-in: how many breaks stand before the first stream measure, or all of them if there is none
abbrev pub lead_in : List ℕ → ℕ
lead_in [] = zero
lead_in (zero ∷ cs) = suc (lead_in cs)
lead_in (suc c ∷ cs) = zero

-- from the first stream measure on
abbrev pub from_first : List ℕ → List ℕ
from_first [] = []
from_first (zero ∷ cs) = from_first cs
from_first (suc c ∷ cs) = suc c ∷ cs

-- a measure before a list that ends in a stream measure or is empty: a break before the empty list goes
abbrev pub keep : ℕ → List ℕ → List ℕ
keep zero [] = []
keep zero (c ∷ cs) = zero ∷ c ∷ cs
keep (suc c) cs = suc c ∷ cs

-- up to the last stream measure
abbrev pub to_last : List ℕ → List ℕ
to_last [] = []
to_last (c ∷ cs) = keep c (to_last cs)

-- Active part: first to last stream measure, both included; empty if there is none
unfoldable pub active : List ℕ → List ℕ
active cs = to_last (from_first cs)

-- Tail: how many measures stand after the active part
abbrev pub tail : List ℕ → ℕ
tail cs = length (drop (length (active cs)) (from_first cs))

-- the active part of the chart's own densities
unfoldable pub active_part : List ℕ → List ℕ
active_part m = take (length (active (classes m))) (drop (lead_in (classes m)) m)

-- a token: class, length, and a star once it is joined of several
pub data Token : Type 0 where
  token : ℕ → ℕ → Bool → Token

abbrev pub class : Token → ℕ
class (token c n s) = c

abbrev pub len : Token → ℕ
len (token c n s) = n

-- a run of n measures of class c, and what follows it, cut into longest runs
abbrev pub runs_from : ℕ → ℕ → List ℕ → List Token
runs_from c n [] = token c n false ∷ []
runs_from c n (d ∷ cs) =
    let longer = runs_from c (suc n) cs in
    let ended = token c n false ∷ runs_from d 1 cs in
    cond (eqb c d) longer ended

-- a list cut into longest runs of one class
abbrev pub runs : List ℕ → List Token
runs [] = []
runs (c ∷ cs) = runs_from c 1 cs

-- Tokens: the active part cut into longest runs of one class
unfoldable pub tokens : List ℕ → List Token
tokens cs = runs (active cs)

-- classes ignored: a stream measure counts as class 1
abbrev pub flat : ℕ → ℕ
flat zero = 0
flat (suc c) = 1

-- how many measures have class c
abbrev pub count : ℕ → List ℕ → ℕ
count c [] = zero
count c (d ∷ cs) = cond (eqb c d) (suc (count c cs)) (count c cs)

-- how many are stream measures
abbrev pub streams : List ℕ → ℕ
streams [] = zero
streams (zero ∷ cs) = streams cs
streams (suc c ∷ cs) = suc (streams cs)

-- the sum of the gaps of 2 or more
abbrev pub wide_gaps : List Token → ℕ
wide_gaps [] = zero
wide_gaps (token zero n s ∷ ts) = cond (ltb n 2) (wide_gaps ts) (n + wide_gaps ts)
wide_gaps (token (suc c) n s ∷ ts) = wide_gaps ts

-- Counts: the whole chart's runs have the lead-in and the tail as gaps; without a stream measure total_breaks is 0. Lead and tail (document 02, A.6):
-- the measures before and after the active part; a stream-free chart has all its measures in lead
unfoldable pub counts : List ℕ → StreamCounts
counts cs =
    record {
      run16_streams = count 1 cs;
      run20_streams = count 2 cs;
      run24_streams = count 3 cs;
      run32_streams = count 4 cs;
      total_breaks = cond (eqb (streams cs) 0) 0 (wide_gaps (runs cs));
      sn_breaks = count 0 (active cs);
      lead = lead_in cs;
      tail = tail cs;
    }

-- run16 run20 run24 run32 total_breaks sn_breaks lead tail
abbrev pub count_numbers : StreamCounts → List ℕ
count_numbers c =
    c.run16_streams ∷ c.run20_streams ∷ c.run24_streams ∷ c.run32_streams ∷ c.total_breaks ∷ c.sn_breaks ∷ c.lead ∷ c.tail ∷ []

-- the counts of a refused chart
abbrev pub no_counts : StreamCounts
no_counts =
    record {
      run16_streams = 0;
      run20_streams = 0;
      run24_streams = 0;
      run32_streams = 0;
      total_breaks = 0;
      sn_breaks = 0;
      lead = 0;
      tail = 0;
    }
