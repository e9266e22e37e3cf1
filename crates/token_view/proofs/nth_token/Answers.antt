-- `token_view::nth_token` meets its contract: the view's token number k.
-- Assumes nothing.
use Rattle.std.proofs.Common.{refl, sym, ◌∙◌}
use Rattle.std.proofs.lemmas.Iterator.Adapters.{option_map_id}
use Rattle.std.proofs.lemmas.Iterator.Consumers.{nth_from_yields_List, YieldsList-from_first}
use Rattle.token_view.specs.Steps.{view_tokens}
use Rattle.token_view.specs.declared.TokenView.{TokenView}
use Rattle.token_view.proofs.Tokens.{nth-answered}
use Rattle.token_view.proofs.nth_token.Goals as goal

pub returns : goal.returns
returns c =
    let token =
    nth_from_yields_List c.nth.result c.nth.new.self c.args.k c.nth.ensures.ran
    (YieldsList-from_first (λ t. t) (λ (v : TokenView). view_tokens v.measures.now) _ refl) in
    rw c.unwrap_or.ensures (nth-answered c.args.k c.nth.result c.in_ok-view.ensures (sym (option_map_id c.nth.result) ∙ token))
