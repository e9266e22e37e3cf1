-- What the functions that write three SN texts in one walk promise each other.
-- Assumes nothing.
use Rattle.std.specs.Prelude.{ℕ, ◌+◌, ◌*◌, ◌≤◌, ◌≡◌, ◌≢◌, List, [], ◌∷◌, ◌++◌, length}
use Rattle.rules.specs.Chart.{Token, class, len}
use Rattle.rules.specs.Slices.{paired}
use Rattle.number.specs.Grown.{Grown}
use Rattle.text_buffer.specs.Runs.{run_token}
use Rattle.sn_text.specs.Sn.{break_tokens}
use Rattle.sn_text.specs.SnParts.{sn_of}
use Rattle.sn_text.specs.declared.three.Turn.{Turn}
use Rattle.sn_text.specs.declared.three.Turns.{Turns}

-- a run u behind an open run t and a break of g (0: none), with the join limit k: `done` is added to the buffer, and the run that is open then has the
-- class of u and no more measures than all; with numbers of the domain, at most 11 bytes are added for each of these tokens
pub record Turned (k : ℕ) (t : Token) (g : ℕ) (u : Token) (old : List ℕ) (at : ℕ) (new : List ℕ) (r : Turn) : Type 0 where
  pub done : List ℕ
  pub text : (more : List Token) → sn_of k (t ∷ (break_tokens g ++ (u ∷ more))) ≡ done ++ sn_of k (run_token r.run ∷ more)
  pub grown : Grown old new at done r.place
  pub same : class (run_token r.run) ≡ class u
  pub small : r.run.length ≤ len t + (g + len u)
  pub short : len t + g ≤ 1048576 → r.place ≤ at + 11 * (length (break_tokens g) + 1)

-- the text of a first run t and the tokens behind it, with the join limit k, is in the buffer but for the run that is open
pub record OpenedIn (k : ℕ) (t : Token) (cs ns old new : List ℕ) (r : Turn) : Type 0 where
  pub done : List ℕ
  pub text : sn_of k (t ∷ paired cs ns) ≡ done ++ sn_of k (run_token r.run ∷ [])
  pub grown : Grown old new 0 done r.place
  pub run : r.run.class ≢ 0
  pub low : r.run.class ≤ 4
  pub room : r.place + 26 ≤ length new

pub record ThreeOpened (t : Token) (cs ns a₀ a b₀ b d₀ d : List ℕ) (r : Turns) : Type 0 where
  pub detailed : OpenedIn 0 t cs ns a₀ a r.detailed
  pub partial : OpenedIn 1 t cs ns b₀ b r.partial
  pub simplified : OpenedIn 4 t cs ns d₀ d r.simplified
