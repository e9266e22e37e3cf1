-- The promises of the calls that make counts and share of a chart.
-- Assumes nothing.
use Rattle.std.specs.Prelude.{ℕ, List, [], ◌∷◌, ltb, Result, Ok, Err}
use Rattle.number.specs.Questions.{Question, question, first_no, accepted}
use Rattle.number.specs.Refusal.{refusal_number}
use Rattle.number.specs.declared.refusal.Refusal.{Refusal}
use Rattle.rules.specs.declared.StreamCounts.{StreamCounts}
use Rattle.rules.specs.Chart.{in_domain, classes, streams, counts, no_counts}
use Rattle.rules.specs.Calls.{share}
use Rattle.counts.specs.declared.CountsAnswer.{CountsAnswer}
use Rattle.counts.specs.declared.share.ShareAnswer.{ShareAnswer}

-- compute_stream_counts: question 1, then the counts
abbrev pub counts_answer : List ℕ → CountsAnswer
counts_answer m =
    let no = first_no (in_domain m ∷ []) in
    record { refused = no; counts = accepted no (counts (classes m)) no_counts }

-- what C gets of it
abbrev pub counts_answer_of : Result StreamCounts Refusal → CountsAnswer
counts_answer_of (Ok counts) = record { refused = 0; counts = counts }
counts_answer_of (Err r) = record { refused = refusal_number r; counts = no_counts }

-- A stream measure, for share? 7
abbrev pub has_stream : List ℕ → Question
has_stream m = question 7 (ltb 0 (streams (classes m)))

-- share: questions 1 and 7, then the share
abbrev pub share_answer : List ℕ → ShareAnswer
share_answer m =
    let no = first_no (in_domain m ∷ has_stream m ∷ []) in
    record { refused = no; share = accepted no (share (classes m)) 0 }

-- what C gets of it
abbrev pub share_answer_of : Result ℕ Refusal → ShareAnswer
share_answer_of (Ok share) = record { refused = 0; share = share }
share_answer_of (Err r) = record { refused = refusal_number r; share = 0 }
