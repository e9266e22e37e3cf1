-- `sn_text::three::sn_three` meets its contract.
-- Assumes nothing.
use Rattle.sn_text.proofs.SnThree.{opened-written}
use Rattle.sn_text.proofs.three.sn_three.Goals as goal

pub returns : goal.returns
returns c =
    let o = c.three_turns-t.ensures in
    record {
      first = opened-written o.detailed c.add_run.ensures;
      second = opened-written o.partial c.add_run-2.ensures;
      third = opened-written o.simplified c.add_run-3.ensures;
    }
