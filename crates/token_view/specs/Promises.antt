-- The promises of the token view.
-- Assumes nothing.
use Rattle.std.specs.Prelude.{ℕ, ◌≡◌, false, List, [], ◌∷◌, Result, Ok, Err}
use Rattle.number.specs.Questions.{first_no, accepted}
use Rattle.number.specs.Refusal.{refusal_number}
use Rattle.number.specs.declared.refusal.Refusal.{Refusal}
use Rattle.rules.specs.Chart.{in_domain}
use Rattle.rules.specs.Calls.{step_at, after_step, admitted}
use Rattle.rules.specs.declared.ViewToken.{ViewToken}
use Rattle.token_view.specs.declared.NthToken.{NthToken}
use Rattle.token_view.specs.declared.TokenView.{TokenView}

-- what the view holds that stream_tokens answers: nothing where it refuses
abbrev pub view_of : Result TokenView Refusal → List ℕ
view_of (Ok v) = v.measures.now
view_of (Err e) = []

-- stream_tokens: question 1, and a view of the measures, empty if they are refused
pub record Opening (m : List ℕ) (refused : ℕ) (view : List ℕ) : Type 0 where
  pub number : refused ≡ first_no (in_domain m ∷ [])
  pub left : view ≡ admitted m

-- next_token: the view's first token, or ended, and a view of what follows it.
-- A view of more measures than the domain, which nobody opened, is as the empty one
pub record Step (view : List ℕ) (said : ViewToken) (next : List ℕ) : Type 0 where
  pub token : said ≡ step_at 0 (admitted view)
  pub left : next ≡ after_step (admitted view)

-- the token of a refused nth_token: all its numbers 0, and ended no
abbrev pub no_token : ViewToken
no_token = record { ended = false; class = 0; length = 0 }

-- an answer of nth_token as C gets it
abbrev pub nth_token_of : Result ViewToken Refusal → NthToken
nth_token_of (Ok t) = record { refused = 0; token = t }
nth_token_of (Err e) = record { refused = refusal_number e; token = no_token }

-- nth_token: question 1, and what step number k says, counted from 0
abbrev pub nth_answer : ℕ → List ℕ → NthToken
nth_answer k m =
    let no = first_no (in_domain m ∷ []) in
    record { refused = no; token = accepted no (step_at k m) no_token }
