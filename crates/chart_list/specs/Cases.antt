-- A list of cases, and a case that says how many places are lent.
-- Assumes nothing.
use Rattle.std.specs.Prelude.{◌≡◌, ℕ, ◌+◌, ◌*◌, ◌<◌, ◌≤◌, List, length, take, drop, slice_index, Option, MatchOption}
use denote.Ref.{Bor}

-- the number of the first three bytes, high byte first
abbrev pub case_length : List ℕ → ℕ
case_length xs = 65536 * slice_index xs 0 + 256 * slice_index xs 1 + slice_index xs 2

-- Cases::next: the first case is given and the list after it is left; nothing is given of a list that is cut, and it stays
abbrev pub TakesCase : List ℕ → Option (Bor (List ℕ)) → List ℕ → Type 0
TakesCase old r new =
    MatchOption r ((length old < 3 + case_length old) × (new ≡ old))
    (λ case. (3 + case_length old ≤ length old) × (case.now ≡ take (case_length old) (drop 3 old)) × (new ≡ drop (3 + case_length old) old))

-- lent_case: a number in two bytes, high byte first, and what stands after it
abbrev pub Lent : List ℕ → Option (ℕ × Bor (List ℕ)) → Type 0
Lent xs r =
    MatchOption r (length xs < 2)
    (λ p. (2 ≤ length xs) × (p.0 ≡ 256 * slice_index xs 0 + slice_index xs 1) × (p.1.now ≡ drop 2 xs))
