-- `sn_text::sn::add_group` meets its contract.
-- Assumes nothing.
use mathlib.Core.List.{[], append-nil}
use native.Mathlib.Omega.{arith}
use Rattle.number.proofs.Grown.{grown, dropped}
use Rattle.sn_text.proofs.SnParts.{ended-most, group-short}
use Rattle.sn_text.proofs.sn.add_group.Goals as goal

pub add_word-b-requires : goal.add_word-b-requires
add_word-b-requires c = (omega (arith, ended-most c.with_break.result (omega arith) c.add_ended-a.ensures), c.sign_word.ensures.short)

pub returns-else-limit-gap : goal.returns-else-limit-gap
returns-else-limit-gap c =
    let a = c.args in
    let w = c.with_break in
    rw (w.ensures.shows, group-short a.limit w.result.class w.result.length w.result.starred a.gap w.ensures.run c.if-limit-gap.false)
    (rw append-nil at (grown _ [] c.add_ended-a.ensures
    (dropped _ (omega (arith, ended-most w.result (omega arith) c.add_ended-a.ensures)) c.add_word-b.ensures)))
