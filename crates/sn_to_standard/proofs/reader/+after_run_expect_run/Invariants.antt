-- `sn_to_standard::reader::after_run` and `expect_run`, which call each other: each call stands further on in the text.
-- Assumes nothing.
use Prim.Native.Nat.{◌-◌}
use lib.ListN.{length}
use Rattle.sn_to_standard.proofs.reader.+after_run_expect_run.Given as goal

abbrev pub decreases-after_run : goal.decreases-after_run
decreases-after_run l = length l.text.now - l.at

abbrev pub decreases-expect_run : goal.decreases-expect_run
decreases-expect_run l = length l.text.now - l.at
