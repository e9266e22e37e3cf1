-- `sn_to_standard::reader::opens_at` meets its contract.
-- Assumes nothing.
use native.Mathlib.Omega.{arith}
use lib.ListN.{drop_of_length-le}
use lib.Seq.{drop-cons}
use Rattle.sn_to_standard.proofs.reader.opens_at.Goals as goal

pub returns-then-at-text : goal.returns-then-at-text
returns-then-at-text c = rw (drop_of_length-le c.args.text.now {i = c.args.at} (omega arith))

pub returns : goal.returns
returns c =
    rw (drop-cons c.args.text.now c.args.at 0 (omega (arith, c.requires.within)))
