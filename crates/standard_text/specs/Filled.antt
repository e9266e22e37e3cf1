-- Pieces of a standard text that are done, each with the gap after it.
-- Assumes nothing.
use Rattle.std.specs.Prelude.{ℕ, zero, suc, ◌+◌, ◌*◌, ◌≤◌, ◌≡◌, Bool, false, List, [], ◌++◌, length, get_or}
use Rattle.number.specs.Digits.{digits}
use Rattle.rules.specs.Chart.{Token}
use Rattle.rules.specs.Texts.{part, star}
use Rattle.rules.specs.Slices.{paired}
use Rattle.text_buffer.specs.MayFollow.{MayFollow}
use Rattle.standard_text.specs.Standard.{gap_item, standard_from}
use Rattle.standard_text.specs.declared.piece.DonePieces.{DonePieces}
use Rattle.standard_text.specs.declared.piece.Piece.{Piece}

-- a piece of n measures and star s, and a gap of g
abbrev pub done_text : Bool → ℕ → Bool → ℕ → List ℕ
done_text b n s g = digits n ++ (star s ++ part (gap_item b g))

-- the first `count` of some of them
abbrev pub done_texts : Bool → ℕ → DonePieces → List ℕ
done_texts b zero d = []
done_texts b (suc i) d = done_texts b i d ++ done_text b (get_or d.lengths i 0) (get_or d.stars i false) (get_or d.gaps i 0)

-- after an open piece p the tokens ts make the first `count` of the pieces d, and q is open then, whichever tokens in two slices follow, and whatever
-- follows those; k is the join limit
pub record Filled (k : ℕ) (p : Piece) (ts : List Token) (q : Piece) (count : ℕ) (d : DonePieces) : Type 0 where
  pub whole : (b : Bool) (c : ℕ) (cs ns : List ℕ) (more : List Token) → MayFollow c (ts ++ paired cs ns)
      → standard_from b k p.length p.starred (ts ++ (paired cs ns ++ more))
      ≡ done_texts b count d ++ standard_from b k q.length q.starred (paired cs ns ++ more)
  pub few : count ≤ length ts
  pub small : q.length ≤ p.length + 4294967296 * length ts
