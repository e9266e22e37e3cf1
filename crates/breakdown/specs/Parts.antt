-- The measures of an active part, read as tokens part by part.
-- Assumes nothing.
use Rattle.std.specs.Prelude.{ℕ, ◌-◌, ◌≤◌, ◌<◌, ◌≡◌, ◌≢◌, List, [], ◌∷◌, ◌++◌, false, length, get_or, drop}
use Rattle.rules.specs.Chart.{class_of, classes, Token, token, runs}
use Rattle.rules.specs.Slices.{paired}
use Rattle.rules.specs.declared.ViewToken.{ViewToken}
use Rattle.std.specs.Coded.{×_prop, →_prop, Unit-prop, le_prop}
use mathlib.Core.HLevel.{×₃_prop, ⊥_prop}
use Rattle.text_buffer.specs.MayFollow.{MayFollow, Alternates}

-- the measures of an active part of the domain
pub record ActiveMeasures (m : List ℕ) : Type 0 where
  pub few : length m ≤ 1048576
  pub alternates : Alternates (runs (classes m))

-- that tokens alternate has one proof at most
MayFollow-prop : (c : ℕ) (ts : List Token) → IsProp (MayFollow c ts)
MayFollow-prop c [] = ×_prop (→_prop ⊥_prop) le_prop
MayFollow-prop c (token d n s ∷ ts) = ×₃_prop (→_prop (×_prop (→_prop ⊥_prop) le_prop)) (MayFollow-prop d ts) le_prop

pub Alternates-prop : (ts : List Token) → IsProp (Alternates ts)
Alternates-prop [] = Unit-prop
Alternates-prop (t ∷ ts) = MayFollow-prop 0 (t ∷ ts)

-- the first token of m
pub record FirstToken (m : List ℕ) (t : ViewToken) : Type 0 where
  pub tokens : runs (classes m) ≡ token t.class t.length false ∷ runs (classes (drop t.length m))
  pub run : t.class ≢ 0
  pub low : t.class ≤ 4
  pub some : 1 ≤ t.length
  pub within : t.length ≤ length m

-- measures that end in a stream measure, or none
pub record Unread (m : List ℕ) : Type 0 where
  pub few : length m ≤ 1048576
  pub last : 0 < length m → class_of (get_or m (length m - 1) 0) ≢ 0

-- the first tokens of m, the last of them a run, are in two slices, and the measures `rest` are still to come
pub record PartRead (m cs ns rest : List ℕ) : Type 0 where
  pub tokens : runs (classes m) ≡ paired cs ns ++ runs (classes rest)
  pub some : 1 ≤ length cs
  pub few : length cs ≤ 256
  pub long : length cs ≡ length ns
  pub run : get_or cs (length cs - 1) 0 ≢ 0
  pub on : length rest < length m
