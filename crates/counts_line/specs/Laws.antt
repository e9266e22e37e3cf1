-- What a reader can expect of the counts line for boards (document 02, A.7) besides its bytes, of every accepted chart.
-- Assumes nothing.
use Rattle.std.specs.Prelude.{ℕ, ◌*◌, ◌≤◌, ◌<◌, ◌≡◌, List, length, take, drop, get_or}
use Rattle.number.specs.Digits.{digits, padded}
use Rattle.number.specs.declared.Written.{Written}
use Rattle.rules.specs.Chart.{classes, counts, count_numbers}
use Rattle.counts_line.specs.Promises.{BoardCounts}

-- m was accepted: `new` is the slice afterwards and r the answer
pub record Board (m new : List ℕ) (r : Written) : Type 0 where
  -- numbers of the domain have at most 7 digits
  pub short : (i : ℕ) → i < 8 → length (digits (get_or (count_numbers (counts (classes m))) i 0)) ≤ 7
  -- the line has 64 bytes
  pub long : r.length ≡ 64
  -- columns that line up: number i stands in the 7 bytes from 8 × i on
  pub columns : (i : ℕ) → i < 8 → take 7 (drop (8 * i) new) ≡ padded 7 (get_or (count_numbers (counts (classes m))) i 0)

pub record BoardLaws : Type 0 where
  pub accepted : (m old new : List ℕ) (r : Written) → BoardCounts m old new r → r.refused ≡ 0 → Board m new r
