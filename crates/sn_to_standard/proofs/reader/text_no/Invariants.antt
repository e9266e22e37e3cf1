-- `sn_to_standard::reader::text_no` meets its contract. The loop's invariant: the text's number is that of where the last descent stopped.
-- Assumes nothing.
use Prim.Native.Nat.{◌-◌}
use mathlib.Core.Path.{◌≡◌}
use lib.ListN.{length}
use Rattle.sn_to_standard.specs.Promises.{text_no}
use Rattle.sn_to_standard.specs.Descents.{StandsIn, expect_no}
use Rattle.sn_to_standard.proofs.reader.text_no.Given as goal

abbrev pub invariant-loop-at : goal.invariant-loop-at
invariant-loop-at l =
    StandsIn l.text l.at l.class l.measures × (expect_no l.text l.at l.class l.measures l.undecided ≡ text_no l.text)

abbrev pub decreases-loop-at : goal.decreases-loop-at
decreases-loop-at l = length l.text - l.at
