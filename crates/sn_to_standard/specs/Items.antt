-- What the workers of the reader promise each other: a number, a run, a break at a place of the text.
-- Assumes nothing.
use Rattle.std.specs.Prelude.{ℕ, ◌+◌, ◌≤◌, ◌<◌, ◌≡◌, Bool, false, cond, ◌||◌, List, [], ◌∷◌, ◌++◌, leb, eqb, length, drop}
use Rattle.number.specs.Digits.{digits, is_digit}
use Rattle.rules.specs.Bytes.{bytes}
use Rattle.rules.specs.Chart.{Token, token, len}
use Rattle.rules.specs.Slices.{total}
use Rattle.rules.specs.Reduced.{run, gap}
use Rattle.rules.specs.Texts.{word}
use Rattle.sn_to_standard.specs.Reader.{words, Reading, outside, inside, expect_run, after_run}
use Rattle.sn_to_standard.specs.Converted.{one_class, gap_behind, with_gaps, undecided_behind, undecided}
use Rattle.sn_to_standard.specs.Laws.{Run}
use Rattle.sn_to_standard.specs.declared.item.Number.{Number}
use Rattle.sn_to_standard.specs.declared.item.Item.{Item}

-- the text's number, 18, 19 or 0, by what is read behind m measures, the last of which have class c (0 at the start), and perhaps an undecided gap
abbrev pub rest_no : ℕ → ℕ → Bool → Reading → ℕ
rest_no c m u outside = 18
rest_no c m u (inside ts) =
    cond (leb (m + (total (gap_behind one_class (token c 1 false) ts) + total (with_gaps ts))) 1048576)
    (cond (u || (undecided_behind (token c 1 false) ts || undecided ts)) 19 0)
    18

-- 18, whatever was read before
abbrev pub Fails : Reading → Type 0
Fails r = (c m : ℕ) (u : Bool) → rest_no c m u r ≡ 18

-- m measures, the gap between class c and the token t, and t
abbrev pub more_measures : ℕ → ℕ → Token → ℕ
more_measures c m t = m + (total (gap_behind one_class (token c 1 false) (t ∷ [])) + len t)

-- a place of a text, its end included
pub record Within (text : List ℕ) (at : ℕ) : Type 0 where
  pub within : at ≤ length text

-- no digit first
abbrev pub Stops : List ℕ → Type 0
Stops [] = Unit {0}
Stops (x ∷ xs) = is_digit x ≡ false

-- digits write the number n, and other bytes follow
pub record NumberIs (xs rest : List ℕ) (n : ℕ) : Type 0 where
  pub written : xs ≡ digits n ++ rest
  pub stops : Stops rest

-- read_number: a number of 1 to 1,048,576, with its place behind; the value is 0 where there is none
pub record NumberRead (text : List ℕ) (at : ℕ) (r : Number) : Type 0 where
  pub most : r.value ≤ 1048576
  pub within : r.next ≤ length text
  pub none : r.value ≡ 0 → (n : ℕ) (rest : List ℕ) → 1 ≤ n → n ≤ 1048576 → ¬ (NumberIs (drop at text) rest n)
  pub some : 1 ≤ r.value → NumberIs (drop at text) (drop r.next text) r.value
  pub further : 1 ≤ r.value → at < r.next

-- the class of the run that a first byte begins
abbrev pub mark_class : ℕ → ℕ
mark_class b = cond (eqb b 126) 2 (cond (eqb b 92) 3 (cond (eqb b 61) 4 1))

-- read_run: a run, with its place behind; the length is 0 where there is none, or one of more than 1,048,576 measures
pub record SomeRun (text : List ℕ) (at : ℕ) (r : Item) : Type 0 where
  pub run_of : Run r.class r.length
  pub written : drop at text ≡ word (run r.class r.length false) ++ drop r.next text
  pub stops : r.class ≡ 1 → Stops (drop r.next text)
  pub within : r.next ≤ length text
  pub further : at < r.next

pub record RunRead (text : List ℕ) (at : ℕ) (r : Item) : Type 0 where
  pub most : r.length ≤ 1048576
  pub none : r.length ≡ 0 → Fails (expect_run (words (drop at text)))
  pub some : 1 ≤ r.length → SomeRun text at r

-- read_break: a break whose "(" stands before the place, and the space behind it; the length is 0 where there are none
pub record SomeBreak (text : List ℕ) (at : ℕ) (r : Item) : Type 0 where
  pub long : 2 ≤ r.length
  pub written : bytes "(" ++ drop at text ≡ word (gap r.length) ++ (bytes " " ++ drop r.next text)
  pub within : r.next ≤ length text
  pub further : at < r.next

pub record BreakRead (text : List ℕ) (at : ℕ) (r : Item) : Type 0 where
  pub most : r.length ≤ 1048576
  pub none : r.length ≡ 0 → Fails (after_run (words (bytes "(" ++ drop at text)))
  pub some : 1 ≤ r.length → SomeBreak text at r
