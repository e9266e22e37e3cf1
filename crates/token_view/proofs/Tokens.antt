-- The tokens of a view as a list, and its steps. Nothing here speaks of code.
-- Assumes nothing.
use Rattle.std.proofs.Common.{◌≡◌, ℕ, zero, suc, ◌+◌, true, false, List, [], ◌∷◌, map, length, drop, get_or, refl, sym, ap, arith, length-drop, Option, slice_get}
use Rattle.std.specs.Option.{unwrap_or}
use Rattle.std.proofs.lemmas.Option.{unwrap_or-slice_get}
use Rattle.rules.specs.Chart.{class_of, classes, Token, token, runs}
use Rattle.rules.specs.Calls.{said, step_at, after_step, admitted}
use Rattle.rules.specs.declared.ViewToken.{ViewToken}
use Rattle.rules.proofs.Domain.{within}
use Rattle.rules.proofs.Steps.{map-drop}
use Rattle.rules.proofs.View.{first_run}
use Rattle.token_view.specs.Promises.{Opening, Step, nth_answer}
use Rattle.token_view.specs.Steps.{view_tokens}
use Rattle.token_view.proofs.Views.{kept, few}

abbrev ended : ViewToken
ended = record { ended = true; class = 0; length = 0 }

abbrev tokens_of : List ℕ → List ViewToken
tokens_of m = map (λ t. said (t ∷ [])) (runs (classes m))

nth-said : (k : ℕ) (ts : List Token) → get_or (map (λ t. said (t ∷ [])) ts) k ended ≡ said (drop k ts)
nth-said zero [] = refl
nth-said (suc k) [] = refl
nth-said zero (token c n s ∷ ts) = refl
nth-said (suc k) (t ∷ ts) = nth-said k ts

-- a view of an accepted chart: the token number k, and ended past the last, is what nth_token answers
pub nth-answered : {m view : List ℕ} (k : ℕ) (t : Option ViewToken) → Opening m 0 view → t ≡ slice_get (view_tokens view) k
    → record { refused = 0; token = unwrap_or t ended } ≡ nth_answer k m
unfolding view_tokens step_at
nth-answered {m} k t o e =
    let whole : m ≡ admitted m = kept m (sym o.number) in
    rw (← o.number, e, unwrap_or-slice_get, o.left, ← whole, ← whole)
    (ap (λ (t : ViewToken). record { refused = 0; token = t }) (nth-said k (runs (classes m))))

-- the first token of some measures, and what follows it
one-add : (n : ℕ) → 1 + n ≡ suc n
one-add n = omega arith

first-token : (d : ℕ) (m : List ℕ)
    → ((step_at 0 (d ∷ m)).ended ≡ false) × (tokens_of (d ∷ m) ≡ step_at 0 (d ∷ m) ∷ tokens_of (after_step (d ∷ m)))
unfolding step_at
first-token d m = rw (first_run (class_of d) 1 (classes m), one-add, map-drop) (refl, refl)

none : (m : List ℕ) → (step_at 0 m).ended ≡ true → (tokens_of m ≡ []) × (tokens_of (after_step m) ≡ [])
unfolding step_at
none [] e = (refl, refl)
none (d ∷ m) e = let f = first-token d m in cc

more : (m : List ℕ) → (step_at 0 m).ended ≡ false → tokens_of m ≡ step_at 0 m ∷ tokens_of (after_step m)
unfolding step_at
more [] e = cc
more (d ∷ m) e = (first-token d m).1

module _ {view next : List ℕ} {said : ViewToken} (s : Step view said next) where
  -- a view that a step left is in the domain
  whole : next ≡ admitted next
  whole = kept next (within next (omega (arith, ap length s.left, length-drop (step_at 0 (admitted view)).length (admitted view), few view)))

  -- a step that says ended: no token is left
  pub none-left : said.ended ≡ true → (view_tokens view ≡ []) × (view_tokens next ≡ [])
  unfolding view_tokens
  none-left e = rw (← whole, s.left) (none (admitted view) (rw s.token at e))

  -- any other step: its token, and then those of the view that it leaves
  pub one-token : said.ended ≡ false → view_tokens view ≡ said ∷ view_tokens next
  unfolding view_tokens
  one-token e = rw (← whole, s.left, s.token) (more (admitted view) (rw s.token at e))
