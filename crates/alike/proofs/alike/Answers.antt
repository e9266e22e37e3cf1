-- `alike::alike` meets its contract.
-- Assumes nothing.
use borrow.Author.Tests.{le-leb}
use Rattle.alike.proofs.Same.{alike}
use Rattle.alike.proofs.alike.Goals as goal

pub returns : goal.returns
returns c =
    let a = c.in_ok-a.field-0 in
    let b = c.in_ok-b.field-0 in
    rw (
      ← c.in_ok-a.ensures.chart,
      ← c.in_ok-b.ensures.chart,
      le-leb _ 1048576 a.few.few,
      le-leb _ 1048576 b.few.few,
      alike a.measures.now b.measures.now _ _ _ c.active_range.ensures c.active_range-2.ensures c.same_places.ensures,
    )
