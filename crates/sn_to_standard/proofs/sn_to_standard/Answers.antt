-- `sn_to_standard::sn_to_standard` meets its contract.
-- Assumes nothing.
use Rattle.std.proofs.Common.{sym}
use borrow.Author.Tests.{eqb-true, eqb-false}
use Rattle.std.proofs.lemmas.Result.{err_from_is_err_and}
use Rattle.number.proofs.Numbered.{numbered}
use Rattle.sn_to_standard.proofs.Call.{call-refused, call-short, call-empty, call-copied, no_room, has_room, put_whole}
use Rattle.sn_to_standard.proofs.sn_to_standard.Goals as goal

pub returns-in_err-check_text : goal.returns-in_err-check_text
returns-in_err-check_text c =
    let p = err_from_is_err_and c.from_residual.result c.from_residual.ensures.1 in
    rw (p.1, p.2) (call-refused _ _ _ c.in_err-check_text.ensures (numbered _))

pub returns-then-is_empty : goal.returns-then-is_empty
returns-then-is_empty c =
    call-empty _ _ c.in_ok-check_text.ensures (eqb-true _ _ (sym c.if-is_empty.ensures)) c.write_no_streams.ensures

pub copy_fits-requires : goal.copy_fits-requires
copy_fits-requires c = call-short _ c.in_ok-check_text.ensures

pub returns-then-not-copy_fits : goal.returns-then-not-copy_fits
returns-then-not-copy_fits c =
    call-copied _ _ c.in_ok-check_text.ensures (eqb-false _ _ (sym c.if-is_empty.ensures)) (no_room c.copy_fits.ensures c.if-not-copy_fits.true)

pub returns : goal.returns
returns c =
    let h = put_whole (has_room c.copy_fits.ensures c.if-not-copy_fits.false) c.put_copied.ensures in
    call-copied _ _ c.in_ok-check_text.ensures (eqb-false _ _ (sym c.if-is_empty.ensures)) h
