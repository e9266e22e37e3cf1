-- A part of a lent slice as C is told it: by its place and length, since no exported function gives back a reference.
-- Assumes nothing.
use Rattle.std.specs.Prelude.{ℕ, ◌≡◌, true, false, cond, List, leb, length, take, drop}
use Rattle.rules.specs.Chart.{classes, lead_in, active, active_part}
use Rattle.label.specs.Promises.{pair_choice}
use Rattle.puvolamie_c.specs.declared.charts.ActiveRange.{ActiveRange}
use Rattle.puvolamie_c.specs.declared.texts.PairPart.{PairPart}

-- Active part: the measures before it, and its length
abbrev pub active_range : List ℕ → ActiveRange
active_range m = record { start = lead_in (classes m); length = length (active (classes m)) }

-- the measures that a range marks off
abbrev pub within : ActiveRange → List ℕ → List ℕ
within r m = take r.length (drop r.start m)

-- Pair form of label, by the two lengths: the first text if it fits, else the second if it fits, else the empty beginning of the first
abbrev pub pair_part : ℕ → ℕ → ℕ → PairPart
pair_part a b width =
    cond (leb a width) (record { second = false; length = a })
    (cond (leb b width) (record { second = true; length = b }) (record { second = false; length = 0 }))

-- the bytes that such a part marks off
abbrev pub pair_bytes : PairPart → List ℕ → List ℕ → List ℕ
pair_bytes r first second = take r.length (cond r.second second first)

-- what C is told marks off the very part that active_range and label_pair give back
pub record SameParts : Type 0 where
  -- pv_active_range
  pub active : (m : List ℕ) → within (active_range m) m ≡ active_part m
  -- pv_label_pair
  pub pair : (first second : List ℕ) (width : ℕ) → pair_bytes (pair_part (length first) (length second) width) first second ≡ pair_choice first second width
