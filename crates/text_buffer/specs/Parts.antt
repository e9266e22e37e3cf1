-- Tokens in two slices (that they are equally long is said by the type that holds both: `Tokens` of crate rules), and what a function promises that
-- writes or measures a text part by part: the text of a run or piece that is still open, of the tokens of one part behind it, and of whatever follows, is
-- what is done, and then the text of the one that is open now and of what follows.
-- Assumes nothing.
use Rattle.std.specs.Prelude.{ℕ, ◌+◌, ◌≤◌, ◌≡◌, ◌≢◌, List, ◌++◌, length, take}
use Rattle.number.specs.Place.{Room}
use Rattle.rules.specs.Chart.{Token}
use Rattle.rules.specs.Slices.{paired}
use Rattle.text_buffer.specs.MayFollow.{MayFollow, Alternates}
use Rattle.text_buffer.specs.Buffer.{Added}
use Rattle.text_buffer.specs.declared.buffer.Left.{Left}

-- the tokens of a chart of the domain
pub record Tokens (cs ns : List ℕ) : Type 0 where
  pub few : length cs ≤ 1048576
  pub alternates : Alternates (paired cs ns)

-- tokens behind one of class c; the last is a run, if there are any
pub record TokensBehind (c : ℕ) (cs ns : List ℕ) : Type 0 where
  pub few : length cs ≤ 1048576
  pub run : c ≢ 0
  pub behind : MayFollow c (paired cs ns)

-- `text_of` says the text by what follows this part: room for what stands in the buffer and for it, whatever follows
pub record PartRoom (text_of : List Token → List ℕ) (buf out : List ℕ) (from : Left) : Type 0 where
  pub more : List Token
  pub room : Room out from.place (take from.left buf ++ text_of more)

-- the part is written, and the text goes on as `on_of` says
pub record PartWritten (text_of on_of : List Token → List ℕ) (old out : List ℕ) (from : Left) (buf new : List ℕ) (to : Left) : Type 0 where
  pub done : List ℕ
  pub whole : (more : List Token) → text_of more ≡ done ++ on_of more
  pub wrote : Added old out from done buf new to

-- the part has r bytes, and the text goes on as `on_of` says; `most` bytes at most
pub record PartMeasured (text_of on_of : List Token → List ℕ) (most r : ℕ) : Type 0 where
  pub whole : (more : List Token) → length (text_of more) ≡ r + length (on_of more)
  pub short : r ≤ most
