-- What the two functions of the reader promise each other: by where they stand, the text's number.
-- Assumes nothing.
use Rattle.std.specs.Prelude.{ℕ, ◌+◌, ◌*◌, ◌≤◌, ◌<◌, ◌≡◌, Bool, false, cond, ◌⊎◌, List, [], ◌∷◌, eqb, length, drop}
use Rattle.sn_to_standard.specs.Reader.{words, Reading, outside, inside, expect_run, after_run}
use Rattle.sn_to_standard.specs.Items.{rest_no}

-- what the bytes behind a run show: the end, or a space and what may follow
abbrev pub after_bytes : List ℕ → Reading
after_bytes [] = inside []
after_bytes (x ∷ xs) = cond (eqb x 32) (after_run (words xs)) outside

-- the text's number, m measures being read before `at`, the last of class c, and perhaps an undecided gap: where a run is expected, and behind one
abbrev pub expect_no : List ℕ → ℕ → ℕ → ℕ → Bool → ℕ
expect_no text at c m u = rest_no c m u (expect_run (words (drop at text)))

abbrev pub after_no : List ℕ → ℕ → ℕ → ℕ → Bool → ℕ
after_no text at c m u = rest_no c m u (after_bytes (drop at text))

-- does a break begin here?
abbrev pub opens : List ℕ → Bool
opens [] = false
opens (x ∷ xs) = eqb x 40

-- a place of a text of at most 4,194,304 bytes, behind at most 1,048,576 measures
pub record StandsIn (text : List ℕ) (at c m : ℕ) : Type 0 where
  pub short : length text ≤ 4194304
  pub within : at ≤ length text
  pub class-most : c ≤ 4
  pub few : m ≤ 1048576

-- where a descent stops, in one number
abbrev pub packed : ℕ → ℕ → ℕ → Bool → ℕ
packed at c m u = ((at * 8 + c) * 2 + cond u 1 0) * 2097152 + m

-- a descent that stopped where a run is expected, in a text with the number n; it began at `from`
pub record StoppedAt (text : List ℕ) (n from budget r : ℕ) : Type 0 where
  pub at : ℕ
  pub class : ℕ
  pub measures : ℕ
  pub undecided : Bool
  pub place : r ≡ packed at class measures undecided
  pub stands : StandsIn text at class measures
  pub number : n ≡ expect_no text at class measures undecided
  pub least : from ≤ at
  pub further : 1 ≤ budget → from < at

-- a descent's answer: the text's number, or where it stopped
abbrev pub Descended : List ℕ → ℕ → ℕ → ℕ → ℕ → Type 0
Descended text n from budget r = ((n ≡ r) × (r < 20)) ⊎ StoppedAt text n from budget r
