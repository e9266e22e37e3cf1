-- Three texts at once, each in a buffer of its own.
-- Assumes nothing.
use Rattle.std.specs.Prelude.{ℕ, ◌+◌, ◌*◌, ◌≤◌, List, ◌++◌, length, take}
use Rattle.number.specs.Place.{Room}
use Rattle.rules.specs.Slices.{paired, total}
use Rattle.number.specs.Grown.{Grown}
use Rattle.text_buffer.specs.Parts.{TokensBehind}
use Rattle.text_buffer.specs.declared.three.Three.{Three}

-- the tokens of a chart of the domain behind its first run, of class c and n measures, and three buffers with room for any of its texts:
-- a token takes at most 11 bytes, and 52 are stored at once
pub record ThreeAsked (c n : ℕ) (cs ns a b d : List ℕ) : Type 0 where
  pub tokens : TokensBehind c cs ns
  pub few : n + total (paired cs ns) ≤ 1048576
  pub room_first : 11 * length cs + 52 ≤ length a
  pub room_second : 11 * length cs + 52 ≤ length b
  pub room_third : 11 * length cs + 52 ≤ length d

-- the texts xs, ys and zs stand in the buffers
pub record ThreeGrown (a₀ a b₀ b d₀ d xs ys zs : List ℕ) (r : Three) : Type 0 where
  pub first : Grown a₀ a 0 xs r.first
  pub second : Grown b₀ b 0 ys r.second
  pub third : Grown d₀ d 0 zs r.third

-- room in a slice for the texts that stand in the buffers
pub record ThreeRoom (out : List ℕ) (at : ℕ) (a b d : List ℕ) (r : Three) : Type 0 where
  pub first : r.first ≤ length a
  pub second : r.second ≤ length b
  pub third : r.third ≤ length d
  pub room : Room out at (take r.first a ++ (take r.second b ++ take r.third d))
