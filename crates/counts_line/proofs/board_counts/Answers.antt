-- `counts_line::board_counts` meets its contract.
-- Assumes nothing.
use native.Mathlib.Omega.{arith}
use Rattle.counts_line.proofs.Answers.{board-4, board-room, board-0}
use Rattle.counts_line.proofs.board_counts.Goals as goal

pub returns-then-out-lt-BOARD_LINE : goal.returns-then-out-lt-BOARD_LINE
returns-then-out-lt-BOARD_LINE c =
    rw (← c.in_ok-chart.ensures.chart) (board-4 _ _ c.in_ok-chart.chart.few.few c.if-out-lt-BOARD_LINE.true)

pub put_counts-requires : goal.put_counts-requires
put_counts-requires c =
    (omega arith, board-room _ _ c.in_ok-chart.chart.few.few c.if-out-lt-BOARD_LINE.false _ c.chart_counts.ensures)

pub returns : goal.returns
returns c =
    rw (← c.in_ok-chart.ensures.chart)
    (board-0 _ _ c.in_ok-chart.chart.few.few c.if-out-lt-BOARD_LINE.false _ c.chart_counts.ensures c.put_counts.ensures)
