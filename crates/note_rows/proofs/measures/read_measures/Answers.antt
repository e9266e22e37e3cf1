-- `note_rows::measures::read_measures` meets its contract.
-- Assumes nothing.
use native.Mathlib.Omega.{arith}
use Rattle.std.proofs.lemmas.Result.{err_from_is_err_and}
use Rattle.note_rows.specs.Steps.{FirstRow}
use Rattle.note_rows.proofs.First.{adds_one}
use Rattle.note_rows.proofs.Passing.{starts, fault, next_row, next-measure, done}
use Rattle.note_rows.proofs.measures.read_measures.Goals as goal

pub loop-line-init : goal.loop-line-init
loop-line-init c = rw c.into_iter-line-iterator.ensures.into_iter_gives (starts c.args.text.now c.args.densities.now)

pub returns-in_err-note : goal.returns-in_err-note
returns-in_err-note c =
    let p = err_from_is_err_and c.from_residual.result c.from_residual.ensures.1 in
    rw (p.1, p.2) (fault c.loop-line.invariant (rw c.in_err-note.was at c.in-Some.ensures.steps).0)

pub overflow_add-density : goal.overflow_add-density
overflow_add-density c =
    let row : FirstRow c.loop-line.line-iterator.0.now c.in-Row.note c.next.new.self.0.now = rw (c.in_ok-note.was, c.in-Row.is) at c.in-Some.ensures.steps in
    omega (arith, adds_one row.l, row.adds)

pub loop-line-preserved-in-Row : goal.loop-line-preserved-in-Row
loop-line-preserved-in-Row c =
    next_row c.loop-line.invariant (rw (c.in_ok-note.was, c.in-Row.is) at c.in-Some.ensures.steps) c.if-rows-eq-MOST_ROWS.false

pub loop-line-preserved : goal.loop-line-preserved
loop-line-preserved c =
    rw c.keep.ensures (next-measure c.loop-line.invariant (rw (c.in_ok-note.was, c.in-Measure.is) at c.in-Some.ensures.steps))

pub returns-in-Last : goal.returns-in-Last
returns-in-Last c =
    let last = rw (c.in_ok-note.was, c.in-Last.is) at c.in-Some.ensures.steps in
    rw c.keep-in-Last.ensures (done c.loop-line.invariant (rw last.1 at last.0))
