-- What a number stands for, by the number of what it stands for.
-- Assumes nothing.
use Prim.Native.Nat.{ℕ, ◌<◌}
use mathlib.Core.Path.{◌≡◌, refl}
use mathlib.Core.Logic.{◌⊎◌, inl, inr}
use native.Mathlib.Omega.{arith}
use borrow.Author.Tests.{ne_eqb}
use Rattle.std.specs.Prelude.{Some, None}
use Rattle.rules.specs.declared.Kind.TheVariants.{Sn as sn, Standard as standard}
use Rattle.rules.specs.Calls.{level_number}
use Rattle.rules.specs.Chart.{class_number}
use Rattle.rules.specs.Kinds.{mode_number}
use Rattle.rules.specs.declared.RunDensity.{RunDensity}
use Rattle.rules.specs.declared.RunDensity.TheVariants.{Run32, Run24, Run20, Run16, Break}
use Rattle.rules.specs.declared.BreakdownMode.{BreakdownMode}
use Rattle.rules.specs.declared.BreakdownMode.TheVariants as Mode
use Rattle.rules.specs.declared.StreamBreakdownLevel.{StreamBreakdownLevel}
use Rattle.rules.specs.declared.StreamBreakdownLevel.TheVariants as Level
use Rattle.puvolamie_c.specs.Numbers.{class_at, mode_kind, level_kind}

pub class-at : (c : RunDensity) → class_at (class_number c) ≡ c
class-at Break = refl
class-at Run16 = refl
class-at Run20 = refl
class-at Run24 = refl
class-at Run32 = refl

pub class-none : (n : ℕ) → 4 < n → class_at n ≡ Break
class-none n h = rw (ne_eqb n 1 (λ e. omega arith), ne_eqb n 2 (λ e. omega arith), ne_eqb n 3 (λ e. omega arith), ne_eqb n 4 (λ e. omega arith))

pub mode-kind : (mode : BreakdownMode) → mode_kind (mode_number mode) ≡ Some (sn mode)
mode-kind Mode.Detailed = refl
mode-kind Mode.Partial = refl
mode-kind Mode.Simplified = refl

pub level-kind : (level : StreamBreakdownLevel) → level_kind (level_number level) ≡ Some (standard level)
level-kind Level.Detailed = refl
level-kind Level.Partial = refl
level-kind Level.Simple = refl
level-kind Level.Total = refl

pub mode-none : (n : ℕ) → 2 < n → mode_kind n ≡ None
mode-none n h = rw (ne_eqb n 0 (λ e. omega arith), ne_eqb n 1 (λ e. omega arith), ne_eqb n 2 (λ e. omega arith))

pub level-none : (n : ℕ) → (n ≡ 0) ⊎ (4 < n) → level_kind n ≡ None
level-none n (inl h) = rw h
level-none n (inr h) = rw (ne_eqb n 1 (λ e. omega arith), ne_eqb n 2 (λ e. omega arith), ne_eqb n 3 (λ e. omega arith), ne_eqb n 4 (λ e. omega arith))
