-- Number writer: a number in base ten, as bytes.
-- Assumes nothing.
use Rattle.std.specs.Prelude.{ℕ, zero, suc, ◌+◌, ◌-◌, ◌*◌, ◌/◌, ◌%◌, Bool, cond, ◌&&◌, List, [], ◌∷◌, ◌++◌, ltb, leb, length, replicate}

-- the digits of n, which has at most k + 1 of them
abbrev pub digits_in : ℕ → ℕ → List ℕ
digits_in zero n = (48 + n) ∷ []
digits_in (suc k) n =
    let more = digits_in k (n / 10) ++ ((48 + n % 10) ∷ []) in
    cond (ltb n 10) ((48 + n) ∷ []) more

-- Number writer: base ten, no leading zero, 0 as "0" (n has at most n + 1 digits)
unfoldable pub digits : ℕ → List ℕ
digits n = digits_in n n

-- n at a least width (document 02, A.7): spaces before a shorter number
unfoldable pub padded : ℕ → ℕ → List ℕ
padded width n = replicate (width - length (digits n)) 32 ++ digits n

-- the last j digits of n, with zeros before it where it has fewer
abbrev pub last_digits : ℕ → ℕ → List ℕ
last_digits zero n = []
last_digits (suc j) n = last_digits j (n / 10) ++ ((48 + n % 10) ∷ [])

-- is a byte one of "0" to "9"?
abbrev pub is_digit : ℕ → Bool
is_digit x = leb 48 x && leb x 57

-- the number that the digits among some bytes write, v being read already
abbrev pub value : ℕ → List ℕ → ℕ
value v [] = v
value v (x ∷ xs) = value (cond (is_digit x) (10 * v + (x - 48)) v) xs
