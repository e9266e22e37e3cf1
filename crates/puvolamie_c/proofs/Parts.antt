-- The parts that C is told by place and length are those that the calls give back.
-- Assumes nothing.
use Prim.Native.Nat.{ℕ}
use mathlib.Core.Path.{◌≡◌, refl}
use mathlib.Core.Bool.{Bool, true, false, cond}
use mathlib.Core.List.{List, []}
use lib.Dec.{leb}
use lib.ListN.{length}
use lib.Seq.{take-length}
use Rattle.rules.specs.Chart.{active_part}
use Rattle.puvolamie_c.specs.Parts.{pair_bytes, SameParts}
use Rattle.puvolamie_c.specs.declared.texts.PairPart.{PairPart}

-- of the two tests, by cases
chosen : (a b : Bool) (first second : List ℕ)
    → let told : PairPart = cond b (record { second = true; length = length second }) (record { second = false; length = 0 }) in
    pair_bytes (cond a (record { second = false; length = length first }) told) first second ≡ cond a first (cond b second [])
chosen true b first second = take-length first
chosen false true first second = take-length second
chosen false false first second = refl

pub same_parts : SameParts
unfolding active_part
same_parts =
    record {
      active = λ m. refl;
      pair = λ first second width. chosen (leb (length first) width) (leb (length second) width) first second;
    }
