-- Document 02, A.5: SN detailed text, read into tokens, as document 01 has them: class 0 is a break.
-- Assumes nothing.
use Rattle.std.specs.Prelude.{ℕ, Bool, false, cond, ◌&&◌, List, [], ◌∷◌, leb, eqb}
use Rattle.number.specs.Digits.{value}
use Rattle.rules.specs.Bytes.{same_bytes}
use Rattle.rules.specs.Chart.{Token, token, class, len}
use Rattle.rules.specs.Reduced.{gap, item}
use Rattle.rules.specs.Texts.{word}

-- "It reads runs and breaks parted by one space": a text parted at each of its spaces
abbrev pub onto_first : ℕ → List (List ℕ) → List (List ℕ)
onto_first x [] = (x ∷ []) ∷ []
onto_first x (w ∷ ws) = (x ∷ w) ∷ ws

abbrev pub words : List ℕ → List (List ℕ)
words [] = [] ∷ []
words (x ∷ xs) = cond (eqb x 32) ([] ∷ words xs) (onto_first x (words xs))

-- the class that a word's first byte tells: "(" that of a break, a mark its own, any other byte class 1
abbrev pub first_class : List ℕ → ℕ
first_class [] = 1
first_class (x ∷ xs) = cond (eqb x 40) 0 (cond (eqb x 126) 2 (cond (eqb x 92) 3 (cond (eqb x 61) 4 1)))

-- what a word shows: the run or break of that class, as long as the word's digits say, if the word is just how SN text writes it, "with no
-- leading zero"; a run of length 0 if it is not
abbrev pub shown : List ℕ → Token
shown w = let t = token (first_class w) (value 0 w) false in cond (same_bytes w (word (item gap t))) t (token 1 0 false)

-- "run lengths are from 1, breaks from 2"
abbrev pub is_run : Token → Bool
is_run t = leb 1 (class t) && leb 1 (len t)

abbrev pub is_break : Token → Bool
is_break t = eqb (class t) 0 && leb 2 (len t)

-- what is read: the tokens that a text shows, or that it is outside the rules
pub data Reading : Type 0 where
  outside : Reading
  inside : List Token → Reading

-- a token, and what is read behind it
abbrev pub before : Token → Reading → Reading
before t outside = outside
before t (inside ts) = inside (t ∷ ts)

-- "the reader alternates between expecting a run and expecting what may follow one": the end, a run, or a break, behind which a run is expected
abbrev mutual
  pub expect_run : List (List ℕ) → Reading
  expect_run [] = outside
  expect_run (w ∷ ws) = cond (is_run (shown w)) (before (shown w) (after_run ws)) outside

  pub after_run : List (List ℕ) → Reading
  after_run [] = inside []
  after_run (w ∷ ws) =
      cond (is_run (shown w)) (before (shown w) (after_run ws))
      (cond (is_break (shown w)) (before (shown w) (expect_run ws)) outside)

-- a whole text; the empty one shows nothing
unfoldable pub reading : List ℕ → Reading
reading [] = inside []
reading (x ∷ xs) = expect_run (words (x ∷ xs))
