-- `breakdown::text::text_of_measures` meets its contract.
-- Assumes nothing.
use Rattle.text_buffer.proofs.Added.{added-ends}
use Rattle.breakdown.proofs.text.text_of_measures.Goals as goal

pub returns : goal.returns
returns c = added-ends _ c.measures_text-to.ensures c.put_buffer.ensures
