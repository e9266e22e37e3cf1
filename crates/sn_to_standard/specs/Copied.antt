-- The standard text of a decided text, byte by byte: marks go, and a space between two runs becomes "-".
-- Assumes nothing.
use Rattle.std.specs.Prelude.{ℕ, ◌+◌, ◌≤◌, ◌<◌, cond, ◌||◌, List, [], ◌∷◌, ltb, eqb, length, get_or, take, drop}

-- a space as it is shown, by the bytes p before and q behind it: beside a break it stays
abbrev pub shown_space : ℕ → ℕ → ℕ
shown_space p q = cond (eqb p 41 || eqb q 40) 32 45

abbrev pub shown_byte : ℕ → ℕ → ℕ → ℕ
shown_byte p x q = cond (eqb x 32) (shown_space p q) x

-- each byte so, p being the one before the first; a "(" is taken to follow the last
abbrev pub shown_bytes : ℕ → List ℕ → List ℕ
shown_bytes p [] = []
shown_bytes p (x ∷ xs) = shown_byte p x (get_or xs 0 40) ∷ shown_bytes x xs

-- a byte, or nothing if it is a mark: of such a text's bytes only marks stand above "9"
abbrev pub kept_byte : ℕ → List ℕ
kept_byte x = cond (ltb 57 x) [] (x ∷ [])

abbrev pub kept : List ℕ → List ℕ
kept [] = []
kept (x ∷ xs) = cond (ltb 57 x) (kept xs) (x ∷ kept xs)

-- a ")" is taken to stand before the first byte
abbrev pub copied : List ℕ → List ℕ
copied text = kept (shown_bytes 41 text)

-- n bytes from i on, with one before and one behind them, as a block of at most 256
pub record Block (text : List ℕ) (i n : ℕ) : Type 0 where
  pub first : 1 ≤ i
  pub last : i + n < length text
  pub short : n ≤ 256

abbrev pub shown_part : List ℕ → ℕ → ℕ → List ℕ
shown_part text i n = take n (drop i (shown_bytes 41 text))
