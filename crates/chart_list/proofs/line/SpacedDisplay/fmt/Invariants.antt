-- `Spaced`'s `fmt` writes what it says: the elements so far are written.
-- Assumes nothing.
use Rattle.std.proofs.Common.{take, Ok}
use Rattle.std.specs.Fmt.{DisplaysOnOk}
use Rattle.chart_list.specs.Line.{spaced}
use Rattle.chart_list.proofs.line.SpacedDisplay.fmt.Given as goal

abbrev pub invariant-loop-number : goal.invariant-loop-number
invariant-loop-number g l =
    DisplaysOnOk g.W.Write.write_str_gives l.initial.f (Ok tt) (spaced g.T.Display.output (take l.number-index l.self.0.now)) l.f
