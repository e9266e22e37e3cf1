-- `sn_to_standard::reader::check_text` meets its contract.
-- Assumes nothing.
use mathlib.Core.Path.{◌∙◌}
use Rattle.sn_to_standard.proofs.Laws.{undecided-left}
use Rattle.sn_to_standard.proofs.reader.check_text.Goals as goal

pub returns : goal.returns
returns c =
    let e = c.text_no-no.ensures in
    undecided-left _ (λ z. c.if-no-eq0.false (e ∙ z)) (λ z. c.if-no-eq18.false (e ∙ z))
