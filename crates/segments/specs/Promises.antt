-- The promises of the exported calls.
-- Assumes nothing.
use Rattle.std.specs.Prelude.{ℕ, ◌≡◌, true, false, List, [], ◌∷◌, leb, length, drop, Option, Some, None, Result, Ok, Err}
use Rattle.number.specs.Questions.{Question, question, first_no, accepted, filled}
use Rattle.number.specs.Refusal.{refusal_number}
use Rattle.number.specs.declared.refusal.Refusal.{Refusal}
use Rattle.rules.specs.Chart.{in_domain, classes}
use Rattle.rules.specs.Calls.{segments}
use Rattle.rules.specs.declared.StreamSegment.{StreamSegment}
use Rattle.segments.specs.declared.SegmentsAnswer.{SegmentsAnswer}
use Rattle.segments.specs.declared.NthSegment.{NthSegment}

-- A place for each segment? 3
abbrev pub places_for : List StreamSegment → List StreamSegment → Question
places_for ss old = question 3 (leb (length ss) (length old))

-- the first no to stream_sequences
abbrev pub segments_no : List ℕ → List StreamSegment → ℕ
segments_no m old = first_no (in_domain m ∷ places_for (segments (classes m)) old ∷ [])

-- an answer of stream_sequences as C gets it
abbrev pub segments_answer_of : Result ℕ Refusal → SegmentsAnswer
segments_answer_of (Ok n) = record { refused = 0; count = n }
segments_answer_of (Err e) = record { refused = refusal_number e; count = 0 }

-- stream_sequences: the segments at the slice's start, later records unchanged, and their number
pub record Segmented (m : List ℕ) (old new : List StreamSegment) (r : SegmentsAnswer) : Type 0 where
  pub answer : r ≡ record { refused = segments_no m old; count = accepted (segments_no m old) (length (segments (classes m))) 0 }
  pub records : new ≡ accepted (segments_no m old) (filled old (segments (classes m))) old

-- what stands where there is no segment
abbrev pub no_segment : StreamSegment
no_segment = record { start = 0; end = 0; is_break = false }

-- an answer of segment_at as C gets it
abbrev pub nth_segment_of : Result (Option StreamSegment) Refusal → NthSegment
nth_segment_of (Ok (Some s)) = record { refused = 0; found = true; segment = s }
nth_segment_of (Ok None) = record { refused = 0; found = false; segment = no_segment }
nth_segment_of (Err e) = record { refused = refusal_number e; found = false; segment = no_segment }

-- the first of some segments, if there is one
abbrev pub first_segment : List StreamSegment → NthSegment
first_segment [] = record { refused = 0; found = false; segment = no_segment }
first_segment (s ∷ ss) = record { refused = 0; found = true; segment = s }

-- segment_at: question 1, then segment number k (from 0) of the chart
unfoldable pub nth_segment : ℕ → List ℕ → NthSegment
nth_segment k m =
    let no = first_no (in_domain m ∷ []) in
    accepted no (first_segment (drop k (segments (classes m)))) (record { refused = no; found = false; segment = no_segment })
