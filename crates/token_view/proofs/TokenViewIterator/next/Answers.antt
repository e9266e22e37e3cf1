-- The iterator of `token_view::TokenView` meets its contract.
-- Assumes nothing.
use Rattle.std.proofs.Common.{rules, ap, length}
use Rattle.token_view.proofs.Tokens.{none-left, one-token}
use Rattle.token_view.proofs.TokenViewIterator.next.Goals as goal

pub returns-then-token-clause-steps : goal.returns-then-token-clause-steps
returns-then-token-clause-steps c = none-left c.next_token.ensures c.if-token.true

pub returns-clause-steps : goal.returns-clause-steps
returns-clause-steps c = one-token c.next_token.ensures c.if-token.false

pub returns-clause-goes : goal.returns-clause-goes
returns-clause-goes c = let one = ap length (one-token c.next_token.ensures c.if-token.false) in search rules
