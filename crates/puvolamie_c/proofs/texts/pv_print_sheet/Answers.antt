-- `puvolamie_c::texts::pv_print_sheet` meets its contract.
-- Assumes nothing.
use Rattle.puvolamie_c.proofs.texts.pv_print_sheet.Goals as goal

pub returns : goal.returns
returns c = record { answer = rw (c.put_answer.ensures.number, c.put_answer.ensures.bytes) }
