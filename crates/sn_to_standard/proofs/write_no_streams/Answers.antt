-- `sn_to_standard::write_no_streams` meets its contract.
-- Assumes nothing.
use Rattle.sn_to_standard.proofs.Call.{put_whole}
use Rattle.sn_to_standard.proofs.write_no_streams.Goals as goal

pub returns : goal.returns
returns c = put_whole (record { fits = c.if-out-lt11.false }) c.put_no_streams.ensures
