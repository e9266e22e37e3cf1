-- `token_view::next_token` meets its contract: a token is no longer than what is left.
-- Assumes nothing.
use Rattle.rules.specs.Calls.{admitted}
use Rattle.token_view.proofs.Views.{step-fits}
use Rattle.token_view.proofs.next_token.Goals as goal

pub slice_bounds-measures-count : goal.slice_bounds-measures-count
slice_bounds-measures-count c = rw (c.token_at-token.ensures, c.admit-left.ensures) (step-fits (admitted c.args.view.measures.now))

pub slice_bounds-measures-start : goal.slice_bounds-measures-start
slice_bounds-measures-start c = rw (c.token_at-token.ensures, c.admit-left.ensures) (step-fits (admitted c.args.view.measures.now))
