-- `sn_to_standard::copy::copy_fits` meets its contract.
-- Assumes nothing.
use Rattle.std.proofs.Common.{length, arith}
use borrow.Author.Tests.{le-leb}
use Rattle.sn_to_standard.specs.Copied.{copied}
use Rattle.sn_to_standard.proofs.Blocks.{kept-most, kept-shown}
use Rattle.sn_to_standard.proofs.copy.copy_fits.Goals as goal

pub returns-then-text-room : goal.returns-then-text-room
returns-then-text-room c =
    let text = c.args.text.now in
    rw (le-leb (length text) c.args.room c.if-text-room.true, le-leb (length (copied text)) c.args.room (omega (arith, kept-shown 41 text, kept-most text)))
