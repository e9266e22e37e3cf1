-- `breakdown::text::add_none` meets its contract.
-- Assumes nothing.
use Rattle.number.proofs.Grown.{wrote-grown}
use Rattle.breakdown.proofs.text.add_none.Goals as goal

pub returns-in-Standard : goal.returns-in-Standard
returns-in-Standard c = rw c.in-Standard.is (wrote-grown _ (record { fits = c.requires }) c.put_no_streams.ensures)
