-- What the functions that write three standard texts in one walk promise each other.
-- Assumes nothing.
use Rattle.std.specs.Prelude.{ℕ, ◌+◌, ◌^◌, ◌≤◌, ◌<◌, ◌≡◌, ◌≢◌, Bool, true, false, List, [], ◌∷◌, ◌++◌, length}
use Rattle.rules.specs.Chart.{Token, token}
use Rattle.rules.specs.Slices.{paired}
use Rattle.number.specs.Grown.{Grown}
use Rattle.standard_text.specs.Standard.{standard_from}
use Rattle.standard_text.specs.Filled.{done_text}
use Rattle.standard_text.specs.declared.piece.Piece.{Piece}
use Rattle.standard_text.specs.declared.three.PieceTurns.{PieceTurns}
use Rattle.standard_text.specs.declared.three.SimpleTurn.{SimpleTurn}

-- a gap of g and a run of n measures behind an open piece p of the simple text: `done` is added to the buffer, and the piece that is open then has no
-- more measures than all; with numbers of the domain, at most 22 bytes are added
pub record SimpleTurned (p : Piece) (g n : ℕ) (old : List ℕ) (at : ℕ) (new : List ℕ) (r : SimpleTurn) : Type 0 where
  pub done : List ℕ
  pub text : (c : ℕ) (more : List Token) → c ≢ 0 → standard_from true 1 p.length p.starred (token 0 g false ∷ token c n false ∷ more)
      ≡ done ++ standard_from true 1 r.piece.length r.piece.starred more
  pub grown : Grown old new at done r.place
  pub small : r.piece.length ≤ p.length + (g + n)
  pub short : p.length + g ≤ 1048576 → r.place ≤ at + 22

-- what is open at a first run of n measures
abbrev pub first_turn : ℕ → PieceTurns
first_turn n = record { piece = n; joined = record { length = n; starred = false }; detailed = 0; partial = 0; simple = 0 }

-- a run of n measures right behind what is open
pub record RunTurned (t : PieceTurns) (n : ℕ) (r : PieceTurns) : Type 0 where
  pub piece : r.piece ≡ t.piece + n
  pub joined : r.joined.length ≡ t.joined.length + n
  pub star : r.joined.starred ≡ t.joined.starred
  pub detailed : r.detailed ≡ t.detailed
  pub partial : r.partial ≡ t.partial
  pub simple : r.simple ≡ t.simple

-- a gap of g and a run of n measures can be written behind what is open
pub record GapAsked (t : PieceTurns) (g n : ℕ) (a b d : List ℕ) : Type 0 where
  pub some : 1 ≤ g
  pub fits : t.joined.length + (g + n) < 2 ^ 64
  pub first : t.detailed + 45 ≤ length a
  pub second : t.partial + 45 ≤ length b
  pub third : t.simple + 45 ≤ length d

-- they are: detailed and partial show each gap
pub record GapTurned (t : PieceTurns) (g n : ℕ) (a₀ a b₀ b d₀ d : List ℕ) (r : PieceTurns) : Type 0 where
  pub piece : r.piece ≡ n
  pub detailed : Grown a₀ a t.detailed (done_text false t.piece false g) r.detailed
  pub partial : Grown b₀ b t.partial (done_text true t.piece false g) r.partial
  pub simple : SimpleTurned t.joined g n d₀ t.simple d (record { piece = r.joined; place = r.simple })

-- the text of a first run of n measures and the tokens behind it, gaps as b says, with the join limit k, is in the buffer but for the piece that is open,
-- of m measures and star s
pub record OpenedIn (b : Bool) (k n : ℕ) (cs ns old new : List ℕ) (place m : ℕ) (s : Bool) : Type 0 where
  pub done : List ℕ
  pub text : standard_from b k n false (paired cs ns) ≡ done ++ standard_from b k m s []
  pub grown : Grown old new 0 done place
  pub room : place + 45 ≤ length new

pub record ThreeOpened (n : ℕ) (cs ns a₀ a b₀ b d₀ d : List ℕ) (r : PieceTurns) : Type 0 where
  pub detailed : OpenedIn false 0 n cs ns a₀ a r.detailed r.piece false
  pub partial : OpenedIn true 0 n cs ns b₀ b r.partial r.piece false
  pub simple : OpenedIn true 1 n cs ns d₀ d r.simple r.joined.length r.joined.starred
