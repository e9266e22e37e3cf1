-- What a function leaves that adds a text to a slice through a buffer. (What one leaves that adds it to the buffer alone is `Grown` of crate number.)
-- Assumes nothing.
use Rattle.std.specs.Prelude.{ℕ, ◌≤◌, ◌≡◌, List, ◌++◌, length, take}
use Rattle.number.specs.Place.{Wrote}
use Rattle.text_buffer.specs.declared.buffer.Left.{Left}

-- a buffer with room for one more group or piece
pub record Ready (buf : List ℕ) (left : ℕ) : Type 0 where
  pub long : 2048 ≤ length buf
  pub few : left ≤ 1984

-- where a text goes on: a place of the slice, and so many bytes in the buffer
abbrev pub goes_on : ℕ → ℕ → Left
goes_on place left = record { place = place; left = left }

-- the text xs behind what stood in the buffer `old`: the first of all that is written in the slice, and the rest stands in the buffer
pub record Added (old : List ℕ) (out : List ℕ) (from : Left) (xs : List ℕ) (buf : List ℕ) (new : List ℕ) (to : Left) : Type 0 where
  pub front : List ℕ
  pub wrote : Wrote out new from.place front to.place
  pub all : front ++ take to.left buf ≡ take from.left old ++ xs
  pub long : length buf ≡ length old
  pub few : to.left ≤ 1984
