-- `is_name` as a test of each byte. Nothing here speaks of code.
-- Assumes nothing.
use Prim.Native.Nat.{ℕ}
use mathlib.Core.Path.{◌≡◌, refl}
use mathlib.Core.Bool.{Bool, ◌&&◌}
use mathlib.Core.List.{List, [], ◌∷◌}
use lib.Dec.{leb}
use Rattle.std.specs.List.{list_all}
use Rattle.number.proofs.Split.{split}
use Rattle.record.specs.Record.{printable}

-- a byte from 20 to 7E
abbrev pub plain : ℕ → Bool
plain b = leb 32 b && leb b 126

pub all-plain : (bytes : List ℕ) → list_all plain bytes ≡ printable bytes
all-plain [] = refl
all-plain (b ∷ bytes) = split (leb 32 b) (λ e. rw (e, all-plain bytes)) (λ e. rw e)
