-- What the functions that write or measure a part of a standard text promise each other.
-- Assumes nothing.
use Rattle.std.specs.Prelude.{ℕ, ◌+◌, ◌*◌, ◌^◌, ◌≤◌, Bool, List, length}
use Rattle.text_buffer.specs.Buffer.{Ready}
use Rattle.text_buffer.specs.Parts.{PartRoom, PartWritten, TokensBehind}
use Rattle.text_buffer.specs.declared.buffer.Left.{Left}
use Rattle.standard_text.specs.Standard.{standard_from, standard_part}
use Rattle.standard_text.specs.declared.piece.Piece.{Piece}
use Rattle.standard_text.specs.declared.standard.StandardDone.{StandardDone}

-- a part can be written: an open piece, the tokens after it, a buffer that has room, and room for the text of all this
pub record StandardAsked (b : Bool) (k : ℕ) (p : Piece) (cs ns buf out : List ℕ) (from : Left) : Type 0 where
  pub tokens : TokensBehind 1 cs ns
  pub short : p.length ≤ 2 ^ 62
  pub ready : Ready buf from.left
  pub room : PartRoom (standard_part b k p.length p.starred cs ns) buf out from

-- it is written, but for the piece that is open after it
abbrev pub StandardWritten : Bool → ℕ → Piece → List ℕ → List ℕ → List ℕ → List ℕ → Left → List ℕ → List ℕ → StandardDone → Type 0
StandardWritten b k p cs ns old out from buf new r =
    PartWritten (standard_part b k p.length p.starred cs ns) (standard_from b k r.piece.length r.piece.starred) old out from buf new r.to
    × (r.piece.length ≤ p.length + 4294967296 * length cs)
