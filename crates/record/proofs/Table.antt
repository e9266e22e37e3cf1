-- The rules on some records: the paper's case 12, and one of each refusal by the fields.
-- Assumes nothing.
use Prim.Native.Nat.{ℕ}
use mathlib.Core.Path.{◌≡◌, refl}
use mathlib.Core.List.{List, [], ◌∷◌, map}
use Rattle.record.specs.Record.{end, whole, fields_of, field_no, record_no}
use Rattle.record.specs.Case12.{case12}

-- case 12: the name "A" and nine densities
pub case12-fields : fields_of case12 ≡ whole 1 (65 ∷ []) (whole 2 (16 ∷ 16 ∷ 0 ∷ 20 ∷ 20 ∷ 0 ∷ 0 ∷ 0 ∷ 16 ∷ []) end)
unfolding fields_of
case12-fields = refl

pub case12-accepted : record_no case12 (0 ∷ 0 ∷ 0 ∷ 0 ∷ 0 ∷ 0 ∷ 0 ∷ 0 ∷ 0 ∷ []) ≡ 0
unfolding fields_of field_no record_no
case12-accepted = refl

-- the name of case 12, and what follows it
abbrev name : List ℕ → List ℕ
name rest = 1 ∷ 0 ∷ 1 ∷ 65 ∷ rest

-- records that are refused
abbrev bad : List (List ℕ)
bad =
    (1 ∷ 0 ∷ []) ∷  -- a head is cut
    name (2 ∷ 0 ∷ 2 ∷ 16 ∷ []) ∷  -- a payload is cut
    name (3 ∷ 0 ∷ 0 ∷ []) ∷  -- an unknown tag
    [] ∷  -- an empty file
    (2 ∷ 0 ∷ 0 ∷ []) ∷  -- no name first
    name (name []) ∷  -- a second name
    (1 ∷ 0 ∷ 0 ∷ []) ∷  -- an empty name
    (1 ∷ 0 ∷ 1 ∷ 31 ∷ []) ∷  -- a byte below 20
    (1 ∷ 0 ∷ 1 ∷ 127 ∷ []) ∷  -- a byte above 7E
    name (2 ∷ 0 ∷ 1 ∷ 16 ∷ []) ∷  -- no place for a density
    []

-- their numbers, where no place is lent
pub refusals : map (λ r. record_no r []) bad ≡ 8 ∷ 17 ∷ 9 ∷ 10 ∷ 10 ∷ 10 ∷ 11 ∷ 11 ∷ 11 ∷ 12 ∷ []
unfolding fields_of field_no record_no
refusals = refl

-- a field of two bytes, cut behind one byte, two, three and four
abbrev cuts : ℕ → List (List ℕ)
cuts tag = (tag ∷ []) ∷ (tag ∷ 0 ∷ []) ∷ (tag ∷ 0 ∷ 2 ∷ []) ∷ (tag ∷ 0 ∷ 2 ∷ 16 ∷ []) ∷ []

-- whatever its tag, as first field and as a later one: 8 and 17 are asked before 9
pub cut-first : (tag : ℕ) → map (λ r. record_no r []) (cuts tag) ≡ 8 ∷ 8 ∷ 17 ∷ 17 ∷ []
unfolding fields_of field_no record_no
cut-first tag = refl

pub cut_later : (tag : ℕ) → map (λ r. record_no (name r) []) (cuts tag) ≡ 8 ∷ 8 ∷ 17 ∷ 17 ∷ []
unfolding fields_of field_no record_no
cut_later tag = refl
