-- The promises of the number writer.
-- Assumes nothing.
use Rattle.std.specs.Prelude.{ℕ, ◌≤◌, ◌≡◌, List, [], ◌∷◌, leb, length}
use Rattle.number.specs.Digits.{digits, padded}
use Rattle.number.specs.Questions.{Question, question, first_no, room_for, OneText}
use Rattle.number.specs.declared.Written.{Written}

-- A width of at most 20? 20
abbrev pub width_in_range : ℕ → Question
width_in_range width = question 20 (leb width 20)

-- push_u64: questions 20 and 4, then n at that width
abbrev pub Pushed : ℕ → ℕ → List ℕ → List ℕ → Written → Type 0
Pushed n width old new r = OneText (first_no (width_in_range width ∷ room_for (padded width n) old ∷ [])) (padded width n) old new r

-- digit_count: a u64 has at most 20 digits
pub record DigitCount (n r : ℕ) : Type 0 where
  pub number : r ≡ length (digits n)
  pub most : r ≤ 20
