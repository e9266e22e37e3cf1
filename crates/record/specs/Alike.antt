-- When two chart records are alike for `sheet`.
-- Assumes nothing.
use Rattle.std.specs.Prelude.{ℕ, ◌≡◌, List, [], ◌∷◌, length}
use Rattle.rules.specs.Chart.{classes}
use Rattle.record.specs.Record.{Fields, end, head_cut, payload_cut, whole, fields_of, densities, name_of}

-- the tags of the whole fields
abbrev pub tags : Fields → List ℕ
tags end = []
tags head_cut = []
tags payload_cut = []
tags (whole tag payload fs) = tag ∷ tags fs

-- their payloads' lengths
abbrev pub lengths : Fields → List ℕ
lengths end = []
lengths head_cut = []
lengths payload_cut = []
lengths (whole tag payload fs) = length payload ∷ lengths fs

-- how they end: nothing is left behind the last whole field, or one of the two cuts
abbrev pub ending : Fields → Fields
ending end = end
ending head_cut = head_cut
ending payload_cut = payload_cut
ending (whole tag payload fs) = ending fs

-- the same length in bytes, name, tags and field lengths, and the same class at each density of the whole fields
pub record Alike (a b : List ℕ) : Type 0 where
  pub long : length a ≡ length b
  pub names : name_of (fields_of a) ≡ name_of (fields_of b)
  pub tagged : tags (fields_of a) ≡ tags (fields_of b)
  pub sized : lengths (fields_of a) ≡ lengths (fields_of b)
  pub charts : classes (densities (fields_of a)) ≡ classes (densities (fields_of b))
