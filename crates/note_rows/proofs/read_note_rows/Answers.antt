-- `note_rows::read_note_rows` meets its contract.
-- Assumes nothing.
use native.Mathlib.Omega.{arith}
use borrow.Author.Rules.{rules}
use Rattle.std.proofs.lemmas.Result.{err_from_is_err_and}
use Rattle.note_rows.proofs.Reading.{by-lines, too_many, no_place, by-copy, by-reading}
use Rattle.note_rows.proofs.read_note_rows.Goals as goal

pub returns-in_err-measures : goal.returns-in_err-measures
returns-in_err-measures c =
    let p = err_from_is_err_and c.from_residual.result c.from_residual.ensures.1 in
    rw (p.1, p.2) (by-lines _ _ _ c.in_err-measures.ensures)

pub returns-then-measures-gt-MOST_MEASURES : goal.returns-then-measures-gt-MOST_MEASURES
returns-then-measures-gt-MOST_MEASURES c = too_many _ _ _ _ _ c.in_ok-measures.ensures (omega arith)

pub returns-then-densities-measures : goal.returns-then-densities-measures
returns-then-densities-measures c =
    no_place _ _ _ _ _ c.in_ok-measures.ensures c.if-measures-gt-MOST_MEASURES.false c.if-densities-measures.true

pub returns-then-measures-le-KEPT : goal.returns-then-measures-le-KEPT
returns-then-measures-le-KEPT c =
    by-copy _ _ _ _ _ c.in_ok-measures.ensures c.if-measures-gt-MOST_MEASURES.false c.if-densities-measures.false (search rules) c.copy_from_slice.ensures.after

pub returns : goal.returns
returns c =
    by-reading _ _ _ _ _ c.in_ok-measures.ensures c.if-measures-gt-MOST_MEASURES.false c.if-densities-measures.false _ c.read_measures-2.ensures
