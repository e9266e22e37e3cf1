-- `number::push_padded` meets its contract.
-- Assumes nothing.
use Rattle.std.proofs.Common.{refl}
use Rattle.std.proofs.lemmas.Result.{err_from_is_err_and}
use Rattle.number.proofs.Push.{padded-refused, padded-written}
use Rattle.number.proofs.Numbered.{numbered}
use Rattle.number.proofs.push_padded.Goals as goal

pub returns-in_err-ask : goal.returns-in_err-ask
returns-in_err-ask c =
    let p = err_from_is_err_and c.from_residual.result c.from_residual.ensures.1 in
    rw (p.1, p.2)
    (padded-refused _ _ _ _ _ _ c.count_by_fours-count.ensures.number c.saturating_sub-spaces.ensures c.in_err-ask.ensures (numbered _))

pub returns : goal.returns
returns c =
    padded-written _ _ _ _ _ _ c.count_by_fours-count.ensures.number c.saturating_sub-spaces.ensures c.in_ok-ask.ensures refl _ c.put_padded.ensures
