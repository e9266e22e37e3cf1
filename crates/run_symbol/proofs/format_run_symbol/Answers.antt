-- `run_symbol::format_run_symbol` meets its contract.
-- Assumes nothing.
use mathlib.Core.Path.{sym, ◌∙◌}
use native.Mathlib.Omega.{arith}
use Rattle.run_symbol.proofs.Answers.{written}
use Rattle.run_symbol.proofs.format_run_symbol.Goals as goal

pub returns : goal.returns
returns c =
    let a = c.args in
    let long = rw c.from.ensures at c.run_length.ensures.number in
    written a.class a.length a.star (sym c.eq.ensures ∙ c.if-eq.false)
    (omega (arith, c.if-out-run_length.false))
    (rw c.from.ensures at c.put_run.ensures)
