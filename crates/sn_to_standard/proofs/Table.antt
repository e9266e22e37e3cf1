-- Texts worked out by the definitions: a text, the number of its first no with room for anything, and what it becomes.
-- Assumes nothing.
use Prim.Native.Nat.{ℕ}
use Prim.Native.String.{String}
use mathlib.Core.Path.{◌≡◌, refl}
use mathlib.Core.List.{List, [], ◌∷◌, ◌++◌, map}
use Rattle.number.specs.Digits.{digits}
use Rattle.number.specs.Questions.{accepted}
use Rattle.rules.specs.Bytes.{bytes}
use Rattle.rules.specs.Texts.{render}
use Rattle.sn_to_standard.specs.Reader.{reading}
use Rattle.sn_to_standard.specs.Converted.{converted}
use Rattle.sn_to_standard.specs.Promises.{text_no}

pub data Row : Type 0 where
  row : List ℕ → ℕ → List ℕ → Row

pub computed : Row → Row
computed (row t n s) = row t (text_no t) (accepted (text_no t) (converted t) [])

abbrev becomes : String → String → Row
becomes t s = row (bytes t) 0 (bytes s)

abbrev refused : ℕ → String → Row
refused n t = row (bytes t) n []

abbrev table : List Row
table =
    becomes "" "No Streams!"
    ∷ becomes "1" "1"
    ∷ becomes "1 1" "1-1"
    ∷ becomes "1 (4) 1" "1 (4) 1"
    ∷ becomes "=1= (2) 1" "1 (2) 1"
    ∷ becomes "~12~ ~3~ (33) \\4\\ \\5\\ (2) =6=" "12-3 (33) 4-5 (2) 6"
    ∷ becomes "1048576" "1048576"
    ∷ map (refused 19) ("1 ~1~" ∷ "2 ~2~ (3) 1" ∷ [])
    ++ map (refused 18) ("1048576 ~1~" ∷ "1 1048575" ∷ "0" ∷ "01" ∷ "1 " ∷ " 1" ∷ "1  1" ∷ "(2) 1" ∷ "1 (2)" ∷ "1 (1) 1" ∷ "1 (2) (2) 1" ∷ [])
    ++ map (refused 18) ("~1 1" ∷ "~1=" ∷ "3*" ∷ "1 - 1" ∷ [])

pub as-printed : map computed table ≡ table
unfolding computed text_no converted reading render digits
as-printed = refl
