-- What is printed of a line.
-- Assumes nothing.
use Rattle.std.specs.Prelude.{ℕ, List, [], ◌∷◌, Option, Some}
use Rattle.std.specs.Fmt.{◌++?◌}

-- the texts of a list's elements, each after a space
abbrev pub spaced : {A : Type 0} → (A → Option (List ℕ)) → List A → Option (List ℕ)
spaced text [] = Some []
spaced text (x ∷ xs) = Some (32 ∷ []) ++? text x ++? spaced text xs
