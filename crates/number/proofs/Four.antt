-- The word of four digits, made of two pairs in its halves. Nothing here speaks of code.
-- Assumes nothing.
use Prim.Native.Nat.{ℕ, ◌+◌, ◌-◌, ◌*◌, ◌/◌, ◌%◌, ◌<◌}
use mathlib.Core.Path.{◌≡◌, refl, ◌∙◌}
use mathlib.Core.List.{[], ◌∷◌}
use native.Mathlib.Omega.{arith}
use Rattle.number.specs.Digits.{last_digits}
use Rattle.number.specs.Word.{word_bytes}

bytes_of : (a b c d : ℕ) → a < 256 → b < 256 → c < 256 → word_bytes (a + 256 * b + 65536 * c + 16777216 * d) ≡ a ∷ b ∷ c ∷ d ∷ []
bytes_of a b c d h k l =
    let w = a + 256 * b + 65536 * c + 16777216 * d in
    let second : w / 256 % 256 ≡ b = omega arith in
    let third : w / 65536 % 256 ≡ c = omega arith in
    let first : w % 256 ≡ a = omega arith in
    let last : w / 16777216 ≡ d = omega arith in
    rw (first, second, third, last) refl

-- 103 / 1024 of a number below 100 is a tenth of it, rounded down
tenth : (x : ℕ) → x < 100 → x * 103 / 1024 ≡ x / 10
tenth x h = omega arith

module _ (p q : ℕ) (h : p < 100) (k : q < 100) where
  -- the tens of both pairs
  tens-of : (p + q * 65536) * 103 / 1024 % 16 + (p + q * 65536) * 103 / 1024 / 65536 * 65536 ≡ p / 10 + q / 10 * 65536
  tens-of =
      let both : (p + q * 65536) * 103 / 1024 ≡ p * 103 / 1024 + q * 6592 = omega arith in
      let high : (p * 103 / 1024 + q * 6592) / 65536 ≡ q * 103 / 1024 = omega arith in
      rw (both, high, tenth p h, tenth q k) (omega arith)

  word : word_bytes ((p + q * 65536) * 256 - (p / 10 + q / 10 * 65536) * 2559 + 808464432) ≡ (48 + p / 10) ∷ (48 + p % 10) ∷ (48 + q / 10) ∷ (48 + q % 10) ∷ []
  word =
      let w : (p + q * 65536) * 256 - (p / 10 + q / 10 * 65536) * 2559 + 808464432
      ≡ (48 + p / 10) + 256 * (48 + p % 10) + 65536 * (48 + q / 10) + 16777216 * (48 + q % 10) = omega arith in
      rw w (bytes_of (48 + p / 10) (48 + p % 10) (48 + q / 10) (48 + q % 10) (omega arith) (omega arith) (omega arith))

module _ (n : ℕ) where
  abbrev pub pairs : ℕ
  pairs = n % 10000 / 100 + n % 10000 % 100 * 65536

  abbrev pub tens : ℕ
  tens = pairs * 103 / 1024 % 16 + pairs * 103 / 1024 / 65536 * 65536

  pub tens-are : tens ≡ n % 10000 / 100 / 10 + n % 10000 % 100 / 10 * 65536
  tens-are = tens-of (n % 10000 / 100) (n % 10000 % 100) (omega arith) (omega arith)

  pub four-digits : word_bytes (pairs * 256 - tens * 2559 + 808464432) ≡ last_digits 4 n
  four-digits =
      let p = n % 10000 / 100 in
      let q = n % 10000 % 100 in
      let first : p / 10 ≡ n / 10 / 10 / 10 % 10 = omega arith in
      let second : p % 10 ≡ n / 10 / 10 % 10 = omega arith in
      let third : q / 10 ≡ n / 10 % 10 = omega arith in
      let last : q % 10 ≡ n % 10 = omega arith in
      rw tens-are (word p q (omega arith) (omega arith) ∙ rw (first, second, third, last) refl)
