-- `sn_to_standard::reader::text_no` meets its contract. The loop's invariant: the text's number is that of where the last descent stopped.
-- Assumes nothing.
use mathlib.Core.Path.{sym}
use native.Mathlib.Omega.{arith}
use Rattle.sn_to_standard.specs.Promises.{text_no}
use Rattle.sn_to_standard.proofs.Laws.{long-fails}
use Rattle.sn_to_standard.proofs.Descents.{Unpacked, told, unpacked, whole, empty-no}
use Rattle.sn_to_standard.proofs.reader.text_no.Goals as goal
use Rattle.sn_to_standard.proofs.reader.text_no.Goals.{Else-stop-lt20}

pub returns-then-text-eq0 : goal.returns-then-text-eq0
returns-then-text-eq0 c = empty-no _ c.if-text-eq0.true

pub returns-then-text-gt4194304 : goal.returns-then-text-gt4194304
returns-then-text-gt4194304 c = sym (long-fails _ c.if-text-gt4194304.true)

pub loop-at-init : goal.loop-at-init
loop-at-init c =
    (record { short = omega arith; within = omega arith; class-most = omega arith; few = omega arith }, whole _ c.if-text-eq0.false)

pub returns-then-stop-lt20 : goal.returns-then-stop-lt20
returns-then-stop-lt20 c = told c.loop-at.invariant.1 c.expect_run-stop.ensures c.if-stop-lt20.true

-- where the descent stopped
stopped : (c : Else-stop-lt20) → let t = c.args.text.now in Unpacked t (text_no t) c.loop-at.at c.expect_run-stop.result
stopped c = unpacked c.loop-at.invariant.1 c.expect_run-stop.ensures c.if-stop-lt20.false

pub loop-at-smaller : goal.loop-at-smaller
loop-at-smaller c = let p = stopped (goal.at.loop-at-smaller c).Else-stop-lt20 in omega (arith, p.further, p.stands.within)

pub loop-at-preserved : goal.loop-at-preserved
loop-at-preserved c = let p = stopped (goal.at.loop-at-preserved c).Else-stop-lt20 in (p.stands, p.number)
