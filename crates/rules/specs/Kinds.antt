-- Classes, modes and levels that are asked for by number.
-- Assumes nothing.
use Rattle.std.specs.Prelude.{ℕ, ◌≤◌, ◌<◌, ◌≡◌, ◌⊎◌, Result, MatchResult}
use Rattle.number.specs.declared.refusal.Refusal.{Refusal}
use Rattle.number.specs.declared.refusal.Refusal.TheVariants.{NoStreamClass, NoSuchNumber}
use Rattle.rules.specs.Chart.{class_number}
use Rattle.rules.specs.Calls.{level_number}
use Rattle.rules.specs.declared.RunDensity.{RunDensity}
use Rattle.rules.specs.declared.BreakdownMode.{BreakdownMode}
use Rattle.rules.specs.declared.BreakdownMode.TheVariants as Mode
use Rattle.rules.specs.declared.StreamBreakdownLevel.{StreamBreakdownLevel}

-- the mode's number
abbrev pub mode_number : BreakdownMode → ℕ
mode_number Mode.Detailed = 0
mode_number Mode.Partial = 1
mode_number Mode.Simplified = 2

-- the class with the number n; above 4 there is none
abbrev pub ClassOf : ℕ → Result RunDensity Refusal → Type 0
ClassOf n r = MatchResult r (λ c. class_number c ≡ n) (λ e. (4 < n) × (e ≡ NoStreamClass))

-- the mode with the number n; above 2 there is none
abbrev pub ModeOf : ℕ → Result BreakdownMode Refusal → Type 0
ModeOf n r = MatchResult r (λ m. mode_number m ≡ n) (λ e. (2 < n) × (e ≡ NoSuchNumber))

-- the level with the number n, of 1 to 4; there is no other
abbrev pub LevelOf : ℕ → Result StreamBreakdownLevel Refusal → Type 0
LevelOf n r = MatchResult r (λ l. level_number l ≡ n) (λ e. ((n ≡ 0) ⊎ (4 < n)) × (e ≡ NoSuchNumber))
