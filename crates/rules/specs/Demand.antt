-- Demand 3 on the level of the rules, as a statement about any two charts a and b.
-- Assumes nothing.
use Rattle.std.specs.Prelude.{ℕ, ◌<◌, ◌≡◌, ◌↔◌, ◌⊎◌, List, length, get_or}
use Rattle.rules.specs.Chart.{class_of, classes, active}
use Rattle.rules.specs.Reduced.{Kind, standard, reduced}
use Rattle.rules.specs.Texts.{text}
use Rattle.rules.specs.declared.StreamBreakdownLevel.TheVariants as Level

-- the charts' measures fall one by one in the same classes
pub record SameClasses (a b : List ℕ) : Type 0 where
  pub long : length a ≡ length b
  pub each : (i : ℕ) → i < length a → class_of (get_or a i 0) ≡ class_of (get_or b i 0)

-- a stream measure, by its class
abbrev pub Stream : ℕ → Type 0
Stream c = 0 < c

-- no stream measure among some classes
abbrev pub NoStream : List ℕ → Type 0
NoStream cs = (i : ℕ) → i < length cs → get_or cs i 0 ≡ 0

-- equally long, with stream measures at the same places
pub record SamePlaces (x y : List ℕ) : Type 0 where
  pub long : length x ≡ length y
  pub places : (i : ℕ) → i < length x → Stream (get_or x i 0) ↔ Stream (get_or y i 0)

-- what the standard detailed text means: neither has a stream measure, or the active parts agree
abbrev pub SameStreams : List ℕ → List ℕ → Type 0
SameStreams x y = (NoStream x × NoStream y) ⊎ SamePlaces (active x) (active y)

pub record ExactlyWhen (a b : List ℕ) : Type 0 where
  -- each text is the same exactly when its reduced list is
  pub texts : (k : Kind) → (text k a ≡ text k b) ↔ (reduced k (classes a) ≡ reduced k (classes b))
  -- the standard detailed text
  pub detailed : (text (standard Level.Detailed) a ≡ text (standard Level.Detailed) b) ↔ SameStreams (classes a) (classes b)
