-- The promises of the calls that write one text, or three end to end: what comes back and what the lent slice holds then, in refusals too.
-- Assumes nothing.
use Rattle.std.specs.Prelude.{ℕ, ◌≡◌, List, [], ◌∷◌, replicate, Result, Ok, Err}
use Rattle.number.specs.Questions.{first_no, accepted, filled, room_for, OneText}
use Rattle.number.specs.Refusal.{refusal_number}
use Rattle.number.specs.declared.refusal.Refusal.{Refusal}
use Rattle.number.specs.declared.Written.{Written}
use Rattle.rules.specs.Chart.{in_domain}
use Rattle.rules.specs.declared.Kind.{Kind}
use Rattle.rules.specs.Texts.{text, end_to_end, lengths_of}
use Rattle.chart_texts.specs.declared.ThreeWritten.{ThreeWritten}

-- generate_breakdown and stream_breakdown: the text of one kind
abbrev pub Breakdown : Kind → List ℕ → List ℕ → List ℕ → Written → Type 0
Breakdown k m old new r = OneText (first_no (in_domain m ∷ room_for (text k m) old ∷ [])) (text k m) old new r

-- generate_breakdowns and stream_breakdowns: the texts of three kinds end to end
abbrev pub three_no : List Kind → List ℕ → List ℕ → ℕ
three_no ks m old = first_no (in_domain m ∷ room_for (end_to_end ks m) old ∷ [])

pub record Breakdowns (ks : List Kind) (m old new : List ℕ) (r : ThreeWritten) : Type 0 where
  pub answer : r ≡ record { refused = three_no ks m old; lengths = accepted (three_no ks m old) (lengths_of ks m) (replicate 3 0) }
  pub bytes : new ≡ accepted (three_no ks m old) (filled old (end_to_end ks m)) old

-- what such a call answers in C
abbrev pub three_written_of : Result (List ℕ) Refusal → ThreeWritten
three_written_of (Ok lengths) = record { refused = 0; lengths = lengths }
three_written_of (Err r) = record { refused = refusal_number r; lengths = replicate 3 0 }
