-- `chart_texts::text::text_fits` meets its contract.
-- Assumes nothing.
use Rattle.std.proofs.Common.{arith}
use Rattle.chart_texts.proofs.Texts.{text-short}
use Rattle.chart_texts.proofs.text.text_fits.Goals as goal

pub returns-then-chart-room : goal.returns-then-chart-room
returns-then-chart-room c = grind (arith, text-short)
