-- The promise of the chart record reader.
-- Assumes nothing.
use Rattle.std.specs.Prelude.{ℕ, ◌≡◌, List, length, Result, Ok, Err}
use Rattle.number.specs.Questions.{accepted, filled}
use Rattle.number.specs.Refusal.{refusal_number}
use Rattle.number.specs.declared.refusal.Refusal.{Refusal}
use Rattle.record.specs.Record.{fields_of, densities, name_of, record_no}
use Rattle.record.specs.declared.ChartRecord.{ChartRecord}
use Rattle.record.specs.declared.RecordAnswer.{RecordAnswer}

-- what read_chart_record answers in C: a refusal has only its number
abbrev pub record_answer_of : Result ChartRecord Refusal → RecordAnswer
record_answer_of (Ok r) = record { refused = 0; measures = r.measures; name_start = r.name_start; name_length = r.name_length }
record_answer_of (Err e) = record { refused = refusal_number e; measures = 0; name_start = 0; name_length = 0 }

-- read_chart_record: the first no, or the densities at the slice's start, with their number and the name's place and length
pub record ReadRecord (bytes old new : List ℕ) (r : RecordAnswer) : Type 0 where
  pub answer : r ≡
      record {
        refused = record_no bytes old;
        measures = accepted (record_no bytes old) (length (densities (fields_of bytes))) 0;
        name_start = accepted (record_no bytes old) 3 0;
        name_length = accepted (record_no bytes old) (length (name_of (fields_of bytes))) 0;
      }
  pub placed : new ≡ accepted (record_no bytes old) (filled old (densities (fields_of bytes))) old
