-- The promise of alike.
-- Assumes nothing.
use Rattle.std.specs.Prelude.{ℕ, Bool, false, List, [], ◌∷◌, Result, Ok, Err}
use Rattle.number.specs.Questions.{first_no, accepted}
use Rattle.number.specs.Refusal.{refusal_number}
use Rattle.number.specs.declared.refusal.Refusal.{Refusal}
use Rattle.rules.specs.Bytes.{same_bytes}
use Rattle.rules.specs.Chart.{in_domain}
use Rattle.rules.specs.declared.Kind.TheVariants.{Standard as standard}
use Rattle.rules.specs.Texts.{text}
use Rattle.rules.specs.declared.StreamBreakdownLevel.TheVariants as Level
use Rattle.alike.specs.declared.AlikeAnswer.{AlikeAnswer}

-- alike: question 1 of both charts, then whether their standard detailed texts are the same
abbrev pub alike_answer : List ℕ → List ℕ → AlikeAnswer
alike_answer a b =
    let no = first_no (in_domain a ∷ in_domain b ∷ []) in
    record { refused = no; alike = accepted no (same_bytes (text (standard Level.Detailed) a) (text (standard Level.Detailed) b)) false }

-- what C gets of it
abbrev pub alike_answer_of : Result Bool Refusal → AlikeAnswer
alike_answer_of (Ok alike) = record { refused = 0; alike = alike }
alike_answer_of (Err r) = record { refused = refusal_number r; alike = false }
