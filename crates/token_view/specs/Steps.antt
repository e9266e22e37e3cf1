-- Steps of the token view, one after the other.
-- Assumes nothing.
use Rattle.std.specs.Prelude.{ℕ, suc, ◌<◌, List, [], ◌∷◌, map}
use Rattle.rules.specs.Chart.{classes, runs}
use Rattle.rules.specs.Calls.{said, admitted}
use Rattle.rules.specs.declared.ViewToken.{ViewToken}
use Rattle.token_view.specs.Promises.{Opening, Step}

-- a view of the chart m is opened with the number `refused`, and n steps say t 0, t 1, ..: the first is taken from the opened view,
-- v 0, every other from the view that the step before left
pub record Stepped (m : List ℕ) (n refused : ℕ) (v : ℕ → List ℕ) (t : ℕ → ViewToken) : Type 0 where
  pub opens : Opening m refused (v 0)
  pub steps : (k : ℕ) → k < n → Step (v k) (t k) (v (suc k))

-- what the steps of a view say before they say ended, in order
unfoldable pub view_tokens : List ℕ → List ViewToken
view_tokens m = map (λ t. said (t ∷ [])) (runs (classes (admitted m)))
