-- The promises of label and of its pair form: what comes back and what the lent slice holds then, in refusals too.
-- Assumes nothing.
use Rattle.std.specs.Prelude.{ℕ, ◌≡◌, true, false, cond, List, [], ◌∷◌, leb, length, Option, Some, None, Result, Ok, Err}
use Rattle.number.specs.Questions.{Question, question, first_no, accepted, filled, room_for}
use Rattle.rules.specs.Chart.{in_domain}
use Rattle.rules.specs.declared.Kind.TheVariants.{Standard as standard}
use Rattle.rules.specs.Texts.{text}
use Rattle.rules.specs.Calls.{level_number, label_choice}
use Rattle.rules.specs.declared.StreamBreakdownLevel.{StreamBreakdownLevel}
use Rattle.number.specs.Refusal.{refusal_number}
use Rattle.number.specs.declared.refusal.Refusal.{Refusal}
use Rattle.label.specs.declared.Labelled.{Labelled}
use Rattle.label.specs.declared.LabelWritten.{LabelWritten}

-- label: the text of the level that is shown, and its number
abbrev pub label_text : Option StreamBreakdownLevel → List ℕ → List ℕ
label_text (Some l) m = text (standard l) m
label_text None m = []

abbrev pub label_level : Option StreamBreakdownLevel → ℕ
label_level (Some l) = level_number l
label_level None = 0

-- Does some level fit the label's width? 6
abbrev pub some_fits : Option StreamBreakdownLevel → Question
some_fits (Some l) = question 6 true
some_fits None = question 6 false

abbrev pub label_no : ℕ → List ℕ → List ℕ → ℕ
label_no width m old =
    let choice = label_choice width m in
    first_no (in_domain m ∷ some_fits choice ∷ room_for (label_text choice m) old ∷ [])

pub record Label (width : ℕ) (m old new : List ℕ) (r : LabelWritten) : Type 0 where
  pub answer : r ≡ record {
    refused = label_no width m old;
    level = accepted (label_no width m old) (label_level (label_choice width m)) 0;
    length = accepted (label_no width m old) (length (label_text (label_choice width m) m)) 0;
  }
  pub bytes : new ≡ accepted (label_no width m old) (filled old (label_text (label_choice width m) m)) old

-- what label answers in C
abbrev pub label_written_of : Result Labelled Refusal → LabelWritten
label_written_of (Ok l) = record { refused = 0; level = level_number l.level; length = l.length }
label_written_of (Err r) = record { refused = refusal_number r; level = 0; length = 0 }

-- the pair form of label: the first of two texts if it fits, else the second if it fits, else nothing
abbrev pub pair_choice : List ℕ → List ℕ → ℕ → List ℕ
pair_choice first second width = cond (leb (length first) width) first (cond (leb (length second) width) second [])
