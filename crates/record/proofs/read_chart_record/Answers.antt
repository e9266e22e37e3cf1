-- `record::read_chart_record` meets its contract.
-- Assumes nothing.
use Rattle.std.proofs.lemmas.Result.{err_from_is_err_and}
use Rattle.record.proofs.Reading.{by-fields, too_many, no_place, accepts}
use Rattle.record.proofs.read_chart_record.Goals as goal

pub returns-in_err-read : goal.returns-in_err-read
returns-in_err-read c =
    let p = err_from_is_err_and c.from_residual.result c.from_residual.ensures.1 in
    rw (p.1, p.2) (by-fields _ _ _ c.in_err-read.ensures)

pub returns-then-read-gt-MOST_MEASURES : goal.returns-then-read-gt-MOST_MEASURES
returns-then-read-gt-MOST_MEASURES c = too_many _ _ _ c.in_ok-read.ensures c.if-read-gt-MOST_MEASURES.true

pub returns-then-densities-read : goal.returns-then-densities-read
returns-then-densities-read c =
    no_place _ _ _ c.in_ok-read.ensures c.if-read-gt-MOST_MEASURES.false c.if-densities-read.true

pub returns : goal.returns
returns c =
    accepts _ _ _ c.in_ok-read.ensures c.if-read-gt-MOST_MEASURES.false c.if-densities-read.false c.place_densities.ensures
