-- `sheet` prints the nine lines of document 01's case 12 for its record.
-- Assumes nothing.
use mathlib.Core.Path.{refl}
use Rattle.number.specs.Digits.{digits, padded}
use Rattle.rules.specs.Chart.{class_of, active, tokens, counts}
use Rattle.rules.specs.Reduced.{pieces, reduced}
use Rattle.rules.specs.Texts.{render, text}
use Rattle.record.specs.Record.{fields_of, field_no, record_no}
use Rattle.sheet_lines.specs.Sheet.{sheet_no, sheet_bytes}
use Rattle.sheet_lines.specs.Case12.{Case12}

pub case12-printed : Case12
unfolding sheet_bytes sheet_no record_no fields_of field_no counts text render reduced class_of active tokens pieces digits padded
case12-printed = refl
