-- What a reader can expect of a number at a least width (document 02, A.7) besides its bytes.
-- Assumes nothing.
use Rattle.std.specs.Prelude.{ℕ, ◌-◌, ◌≤◌, ◌<◌, max, ◌≡◌, ◌↔◌, List, length, take, drop, get_or}
use Rattle.number.specs.Digits.{digits, padded}
use Rattle.number.specs.Pushed.{Pushed}
use Rattle.number.specs.declared.Written.{Written}

pub record PaddedLaws : Type 0 where
  -- the digits are the last bytes, and all before them are spaces
  pub last : (width n : ℕ) → let text = padded width n in drop (length text - length (digits n)) text ≡ digits n
  pub before : (width n i : ℕ) → let text = padded width n in i < length text - length (digits n) → get_or text i 0 ≡ 32
  -- no text is shorter than the width, and none is longer but by its digits
  pub long : (width n : ℕ) → length (padded width n) ≡ max width (length (digits n))
  -- a width no greater than the number of digits changes nothing
  pub narrow : (width n : ℕ) → width ≤ length (digits n) → padded width n ≡ digits n
  -- two numbers at one width give the same bytes exactly when they are equal
  pub exactly : (width m n : ℕ) → (padded width m ≡ padded width n) ↔ (m ≡ n)
  -- these are the bytes that an accepted call of push_u64 writes
  pub pushed : (n width : ℕ) (old new : List ℕ) (r : Written) → Pushed n width old new r → r.refused ≡ 0
      → (width ≤ 20) × (take r.length new ≡ padded width n)
