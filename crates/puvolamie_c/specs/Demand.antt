-- Demands 1 and 3 for the calls of this crate that have a promise of their own: pv_generate_breakdown and pv_stream_breakdown, which take a
-- mode or a level by its number, and pv_active_range, which tells places. Every other call keeps the promise of the call that it hands on,
-- of which acceptance/specs speaks.
-- Assumes nothing.
use Rattle.std.specs.Prelude.{ℕ, ◌<◌, ◌≡◌, ◌⊎◌, List, take}
use Rattle.number.specs.declared.Written.{Written}
use Rattle.rules.specs.Calls.{level_number}
use Rattle.rules.specs.Kinds.{mode_number}
use Rattle.rules.specs.Demand.{SameClasses}
use Rattle.rules.specs.declared.Kind.TheVariants.{Sn as sn, Standard as standard}
use Rattle.rules.specs.declared.BreakdownMode.{BreakdownMode}
use Rattle.rules.specs.declared.StreamBreakdownLevel.{StreamBreakdownLevel}
use Rattle.acceptance.specs.SecondHalf.{TextWritten}
use Rattle.puvolamie_c.specs.Numbers.{mode_kind, level_kind, OneKind}
use Rattle.puvolamie_c.specs.Parts.{active_range}

-- Demand 1: a number that stands for no mode, or for no level, is refused by 100, "with every lent slice untouched"
pub record RefusedNumbers : Type 0 where
  pub mode : (n : ℕ) → 2 < n → (m old new : List ℕ) (r : Written) → OneKind (mode_kind n) m old new r
      → (r ≡ record { refused = 100; length = 0 }) × (new ≡ old)
  pub level : (n : ℕ) → (n ≡ 0) ⊎ (4 < n) → (m old new : List ℕ) (r : Written) → OneKind (level_kind n) m old new r
      → (r ≡ record { refused = 100; length = 0 }) × (new ≡ old)

-- Demand 3, first half: "any two charts whose measures fall one by one in the same classes", with "like lent slices and settings", get "the
-- same answers and bytes, refusals included"; here the number is the setting, whatever it stands for
pub record SameAnswers (a b : List ℕ) : Type 0 where
  -- pv_generate_breakdown
  pub generate_breakdown : (n : ℕ) (old new₁ new₂ : List ℕ) (r₁ r₂ : Written)
      → OneKind (mode_kind n) a old new₁ r₁ → OneKind (mode_kind n) b old new₂ r₂ → (r₁ ≡ r₂) × (new₁ ≡ new₂)
  -- pv_stream_breakdown
  pub stream_breakdown : (n : ℕ) (old new₁ new₂ : List ℕ) (r₁ r₂ : Written)
      → OneKind (level_kind n) a old new₁ r₁ → OneKind (level_kind n) b old new₂ r₂ → (r₁ ≡ r₂) × (new₁ ≡ new₂)
  -- pv_active_range
  pub active_range : active_range a ≡ active_range b

-- Demand 3, second half: "Each of the seven texts, written as document 01 has it and by whichever call, is the same for both exactly when
-- document 01's reduced list for that text is the same for both." An accepted call was given the number of a mode or of a level, and what
-- it wrote is that text; so `SecondHalf` (acceptance/specs) speaks of it and of whatever another call wrote.
pub record WritesTexts : Type 0 where
  -- pv_generate_breakdown
  pub generate_breakdown : (n : ℕ) (m old new : List ℕ) (r : Written) → OneKind (mode_kind n) m old new r → r.refused ≡ 0
      → (mode : BreakdownMode) × (n ≡ mode_number mode) × TextWritten (sn mode) m (take r.length new)
  -- pv_stream_breakdown
  pub stream_breakdown : (n : ℕ) (m old new : List ℕ) (r : Written) → OneKind (level_kind n) m old new r → r.refused ≡ 0
      → (level : StreamBreakdownLevel) × (n ≡ level_number level) × TextWritten (standard level) m (take r.length new)

pub record Demand : Type 0 where
  pub refused : RefusedNumbers
  pub first_half : (a b : List ℕ) → SameClasses a b → SameAnswers a b
  pub second_half : WritesTexts
