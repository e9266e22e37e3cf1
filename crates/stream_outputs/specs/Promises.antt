-- The promise of the pass: what comes back and what every lent slice holds then, in refusals too.
-- Assumes nothing.
use Rattle.std.specs.Prelude.{ℕ, ◌≡◌, ◌&&◌, List, [], ◌∷◌, map, leb, length, replicate, Result, Ok, Err}
use Rattle.number.specs.Questions.{Question, question, first_no, accepted, filled, room_for}
use Rattle.number.specs.Refusal.{refusal_number}
use Rattle.number.specs.declared.refusal.Refusal.{Refusal}
use Rattle.rules.specs.Chart.{in_domain, classes, class, len, tokens, counts, no_counts}
use Rattle.rules.specs.Texts.{pass_kinds, end_to_end, lengths_of}
use Rattle.stream_outputs.specs.declared.ChartOutputs.{ChartOutputs}
use Rattle.stream_outputs.specs.declared.StreamOutputs.{StreamOutputs}

-- A place in both token slices for each token? 2
abbrev pub token_places : List ℕ → List ℕ → List ℕ → Question
token_places m cs ns =
    let n = length (tokens (classes m)) in
    question 2 (leb n (length cs) && leb n (length ns))

-- compute_stream_outputs: the pass
abbrev pub pass_no : List ℕ → List ℕ → List ℕ → List ℕ → ℕ
pass_no m cs ns old = first_no (in_domain m ∷ token_places m cs ns ∷ room_for (end_to_end pass_kinds m) old ∷ [])

pub record Outputs (m cs cs' ns ns' old new : List ℕ) (r : StreamOutputs) : Type 0 where
  pub answer : r ≡ record {
    refused = pass_no m cs ns old;
    counts = accepted (pass_no m cs ns old) (counts (classes m)) no_counts;
    tokens = accepted (pass_no m cs ns old) (length (tokens (classes m))) 0;
    lengths = accepted (pass_no m cs ns old) (lengths_of pass_kinds m) (replicate 6 0);
  }
  pub in_classes : cs' ≡ accepted (pass_no m cs ns old) (filled cs (map class (tokens (classes m)))) cs
  pub in_lengths : ns' ≡ accepted (pass_no m cs ns old) (filled ns (map len (tokens (classes m)))) ns
  pub bytes : new ≡ accepted (pass_no m cs ns old) (filled old (end_to_end pass_kinds m)) old

-- what the pass answers in C
abbrev pub stream_outputs_of : Result ChartOutputs Refusal → StreamOutputs
stream_outputs_of (Ok o) = record { refused = 0; counts = o.counts; tokens = o.tokens; lengths = o.lengths }
stream_outputs_of (Err r) = record { refused = refusal_number r; counts = no_counts; tokens = 0; lengths = replicate 6 0 }
