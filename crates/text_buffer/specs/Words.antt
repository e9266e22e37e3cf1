-- A table of words, texts of up to three bytes, and what a function leaves that sets a row of it.
-- Assumes nothing.
use Rattle.std.specs.Prelude.{ℕ, zero, suc, ◌+◌, ◌≤◌, min, ◌≡◌, cond, List, ◌++◌, leb, get_or}
use Rattle.number.specs.Word.{byte_text, word_text, Word, Numbers}
use Rattle.rules.specs.Bytes.{bytes}
use Rattle.rules.specs.Reduced.{sign_of}
use Rattle.rules.specs.Texts.{mark, part, word}

-- what stands on a side of the length of a token of class c: a run's mark, or the byte b
abbrev pub side : ℕ → ℕ → List ℕ
side b zero = byte_text b
side b (suc c) = mark (suc c)

-- the numbers below 100; in rows of five, by class: the marks, what stands before a token's length, what stands behind it with a space, what stands
-- behind a run's length with a space, and with a star too; by length: the signs of SN texts with a space, and those of standard texts
pub record Words (t : List ℕ) : Type 0 where
  pub number : Numbers t
  pub marks : (c : ℕ) → c ≤ 4 → Word (mark c) (get_or t (100 + c) 0)
  pub before : (c : ℕ) → c ≤ 4 → Word (side 40 c) (get_or t (105 + c) 0)
  pub behind : (c : ℕ) → c ≤ 4 → Word (side 41 c ++ bytes " ") (get_or t (110 + c) 0)
  pub ended : (c : ℕ) → c ≤ 4 → Word (mark c ++ bytes " ") (get_or t (115 + c) 0)
  pub starred : (c : ℕ) → c ≤ 4 → Word (mark c ++ bytes "* ") (get_or t (120 + c) 0)
  pub signs : (g : ℕ) → Word (word (sign_of 32 g) ++ bytes " ") (get_or t (125 + min g 33) 0)
  pub parts : (g : ℕ) → Word (part (sign_of 31 g)) (get_or t (159 + min g 32) 0)

-- a row that holds the word w at each place
abbrev pub is_word : ℕ → ℕ → ℕ → Type 0
is_word w i v = v ≡ w

-- a row by class: what stands on a side of a token's length, and the text of `tail`
abbrev pub class_word : ℕ → ℕ → ℕ → ℕ → Type 0
class_word b tail c w = Word (side b c ++ word_text tail) w

-- a row by the length of a gap: the word of its sign
abbrev pub sign_word : ℕ → ℕ → ℕ → ℕ → ℕ → ℕ → Type 0
sign_word most dash slash bar g w = w ≡ cond (leb g 4) dash (cond (leb g most) slash bar)
