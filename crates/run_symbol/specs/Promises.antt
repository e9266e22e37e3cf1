-- The promise of format_run_symbol: what comes back and what the lent slice holds then, in refusals too.
-- Assumes nothing.
use Rattle.std.specs.Prelude.{ℕ, Bool, true, false, List, [], ◌∷◌}
use Rattle.number.specs.Questions.{Question, question, first_no, room_for, OneText}
use Rattle.number.specs.declared.Written.{Written}
use Rattle.rules.specs.Chart.{class_number}
use Rattle.rules.specs.Calls.{run_symbol}
use Rattle.rules.specs.declared.RunDensity.{RunDensity}
use Rattle.rules.specs.declared.RunDensity.TheVariants.{Run32, Run24, Run20, Run16, Break}

-- A stream class for a run symbol? 5
abbrev pub stream_class : RunDensity → Question
stream_class Break = question 5 false
stream_class Run16 = question 5 true
stream_class Run20 = question 5 true
stream_class Run24 = question 5 true
stream_class Run32 = question 5 true

-- format_run_symbol
abbrev pub RunSymbol : RunDensity → ℕ → Bool → List ℕ → List ℕ → Written → Type 0
RunSymbol c n s old new r =
    let symbol = run_symbol (class_number c) n s in
    OneText (first_no (stream_class c ∷ room_for symbol old ∷ [])) symbol old new r
