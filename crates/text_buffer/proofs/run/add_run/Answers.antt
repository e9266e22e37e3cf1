-- `text_buffer::run::add_run` meets its contract.
-- Assumes nothing.
use native.Mathlib.Omega.{arith}
use Rattle.number.proofs.Grown.{but_last}
use Rattle.text_buffer.proofs.run.add_run.Goals as goal

pub returns : goal.returns
returns c = but_last _ 32 (omega arith) c.add_ended.ensures
