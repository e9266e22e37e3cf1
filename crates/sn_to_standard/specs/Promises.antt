-- The promise of the converter.
-- Assumes nothing.
use Rattle.std.specs.Prelude.{ℕ, List, [], ◌∷◌}
use Rattle.number.specs.Questions.{first_no, room_for, OneText}
use Rattle.number.specs.declared.Written.{Written}
use Rattle.sn_to_standard.specs.Reader.{reading}
use Rattle.sn_to_standard.specs.Converted.{within_rules, decided, converted}

-- the questions on the text alone: 18, then 19
unfoldable pub text_no : List ℕ → ℕ
text_no sn = first_no (within_rules (reading sn) ∷ decided (reading sn) ∷ [])

-- 18, then 19, then 4
unfoldable pub sn_to_standard_no : List ℕ → List ℕ → ℕ
sn_to_standard_no sn old = first_no (within_rules (reading sn) ∷ decided (reading sn) ∷ room_for (converted sn) old ∷ [])

-- sn_to_standard: a call that writes one text
abbrev pub SnToStandard : List ℕ → List ℕ → List ℕ → Written → Type 0
SnToStandard sn old new r = OneText (sn_to_standard_no sn old) (converted sn) old new r
