-- `sheet::write_sheet` meets its contract: what was read and written is told by the reader and the writer.
-- Assumes nothing.
use Rattle.std.proofs.lemmas.Result.{on_ok_weaker}
use Rattle.sheet.proofs.Whole.{copied}
use Rattle.sheet.proofs.write_sheet.Goals as goal

pub returns : goal.returns
returns g c =
    let r = c.in_ok-count.ensures in
    on_ok_weaker c.write_all.result
    (λ h. copied _ _ _ _ c.read_full.new.out c.in_ok-count.count c.print_sheet-sheet.result c.read_full.auto.out r.counts.0 r.bytes r.whole
    c.print_sheet-sheet.ensures h)
    c.write_all.ensures.bytes
