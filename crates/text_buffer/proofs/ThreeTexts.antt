-- Three texts, each in a buffer of its own: their bytes, and room for them in a slice.
-- Assumes nothing.
use Prim.Native.Nat.{ℕ}
use mathlib.Core.Path.{◌≡◌}
use mathlib.Core.List.{List, ◌++◌}
use native.Mathlib.Omega.{arith}
use lib.ListN.{take}
use Rattle.number.specs.Place.{Room}
use Rattle.text_buffer.specs.Three.{ThreeGrown, ThreeRoom}
use Rattle.text_buffer.specs.declared.three.Three.{Three}
use Rattle.number.proofs.Grown.{within}

module _ {a₀ a b₀ b d₀ d xs ys zs : List ℕ} {r : Three} (g : ThreeGrown a₀ a b₀ b d₀ d xs ys zs r) where
  pub three-bytes : take r.first a ++ (take r.second b ++ take r.third d) ≡ xs ++ (ys ++ zs)
  three-bytes = rw (g.first.front, g.second.front, g.third.front)

  pub three-room : {out : List ℕ} {at : ℕ} → Room out at (xs ++ (ys ++ zs)) → ThreeRoom out at a b d r
  three-room h =
      record {
        first = within _ (omega arith) g.first;
        second = within _ (omega arith) g.second;
        third = within _ (omega arith) g.third;
        room = rw three-bytes h;
      }
