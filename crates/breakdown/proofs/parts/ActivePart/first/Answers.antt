-- `breakdown::parts::ActivePart::first` meets its contract.
-- Assumes nothing.
use mathlib.Core.Path.{sym, ◌∙◌}
use native.Mathlib.Omega.{arith}
use borrow.Author.Tests.{eqb-false}
use Rattle.breakdown.proofs.PartByPart.{first-found}
use Rattle.breakdown.proofs.parts.ActivePart.first.Goals as goal

pub returns : goal.returns
returns c =
    let p = c.args.self in
    let some = eqb-false _ 0 (sym c.is_empty.ensures ∙ c.if-is_empty.false) in
    first-found (record { few = p.few; alternates = p.alternates }) (omega arith) _ c.token_at.ensures
