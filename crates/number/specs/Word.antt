-- Texts of up to three bytes as numbers: the first byte lowest, then the second and the third, then how many count.
-- Assumes nothing.
use Rattle.std.specs.Prelude.{ℕ, zero, suc, ◌+◌, ◌/◌, ◌%◌, ◌≤◌, ◌<◌, ◌≡◌, List, [], ◌∷◌, take, get_or}
use Rattle.number.specs.Digits.{digits}

-- a byte, or nothing if it is 0
abbrev pub byte_text : ℕ → List ℕ
byte_text zero = []
byte_text (suc b) = suc b ∷ []

-- the text of a word
abbrev pub word_text : ℕ → List ℕ
word_text w = take (w / 16777216) (w % 256 ∷ (w / 256 % 256 ∷ (w / 65536 % 256 ∷ [])))

-- all four bytes of a word
abbrev pub word_bytes : ℕ → List ℕ
word_bytes w = w % 256 ∷ w / 256 % 256 ∷ w / 65536 % 256 ∷ w / 16777216 ∷ []

-- w is a word of the text xs
pub record Word (xs : List ℕ) (w : ℕ) : Type 0 where
  pub text : word_text w ≡ xs
  pub short : w / 16777216 ≤ 3

-- w is a word of the digits of from + i
abbrev pub number_word : ℕ → ℕ → ℕ → Type 0
number_word from i w = Word (digits (from + i)) w

-- a table in which each number below 100 stands at its own place
abbrev pub Numbers : List ℕ → Type 0
Numbers t = (n : ℕ) → n < 100 → Word (digits n) (get_or t n 0)
