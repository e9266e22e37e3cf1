-- The tokens of measures, one by one, and what stands behind a token.
-- Assumes nothing.
use Prim.Native.Nat.{ℕ, suc, ◌+◌, ◌≤◌, ◌<◌}
use mathlib.Core.Path.{◌≡◌, refl, ◌∙◌}
use mathlib.Core.Bool.{false}
use mathlib.Core.Logic.{◌≢◌}
use mathlib.Core.List.{List, [], ◌∷◌}
use native.Mathlib.Omega.{arith}
use lib.ListN.{length, drop}
use Rattle.rules.specs.Chart.{class_of, classes, Token, token, runs}
use Rattle.rules.specs.Calls.{step_at}
use Rattle.rules.specs.declared.ViewToken.{ViewToken}
use Rattle.rules.proofs.Steps.{map-drop}
use Rattle.rules.specs.Slices.{leading, paired}
use Rattle.rules.proofs.View.{first_run, run_fits}
use Rattle.text_buffer.specs.Parts.{TokensBehind}
use Rattle.text_buffer.specs.MayFollow.{MayFollow, Alternates, first_class}

-- ---- the first token of some measures

one-add : (k : ℕ) → 1 + k ≡ suc k
one-add k = omega arith

module _ (d : ℕ) (m : List ℕ) where
  abbrev more : ℕ
  more = leading (class_of d) (classes m)

  first-token : runs (classes (d ∷ m)) ≡ token (class_of d) (suc more) false ∷ runs (classes (drop more m))
  first-token = first_run (class_of d) 1 (classes m) ∙ rw (map-drop, one-add)

-- the token that a step of the view says, and those after it
pub record Stepped (m : List ℕ) (t : ViewToken) : Type 0 where
  pub rest : runs (classes m) ≡ token t.class t.length false ∷ runs (classes (drop t.length m))
  pub some : 1 ≤ t.length
  pub fits : t.length ≤ length m

pub stepped : (m : List ℕ) → 0 < length m → Stepped m (step_at 0 m)
unfolding step_at
stepped [] h = absurd (omega arith)
stepped (d ∷ m) h =
    rw (first-token d m)
    (record { rest = first-token d m; some = omega arith; fits = omega (arith, run_fits m 0 (class_of d) (omega arith)) })

-- ---- what stands behind a token

pub opens-break : (ts : List Token) → MayFollow 0 ts → Alternates ts
opens-break [] h = tt
opens-break (t ∷ ts) h = h

pub run-behind : (ts : List Token) → MayFollow 0 ts → first_class ts ≢ 0
run-behind [] h = h.0
run-behind (token d n s ∷ ts) h = λ e. (h.0 e).0 refl

-- the class is at most 4
pub behind-low : (c : ℕ) (ts : List Token) → MayFollow c ts → c ≤ 4
behind-low c [] b = b.1
behind-low c (token d n s ∷ ts) b = b.2

pub tokens-low : {c : ℕ} {cs ns : List ℕ} → TokensBehind c cs ns → c ≤ 4
tokens-low {c} {cs} {ns} b = behind-low c (paired cs ns) b.behind
