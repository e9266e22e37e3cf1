-- Refusals by their numbers.
-- Assumes nothing.
use Rattle.std.specs.Prelude.{ℕ, Result, Ok, Err}
use Rattle.number.specs.declared.refusal.Refusal.{Refusal}
use Rattle.number.specs.declared.refusal.Refusal.TheVariants as R
use Rattle.number.specs.declared.Written.{Written}

-- the number of the question
abbrev pub refusal_number : Refusal → ℕ
refusal_number R.TooManyMeasures = 1
refusal_number R.TooFewTokens = 2
refusal_number R.TooFewSegments = 3
refusal_number R.TextTooShort = 4
refusal_number R.NoStreamClass = 5
refusal_number R.NoLevelFits = 6
refusal_number R.NoStreamMeasure = 7
refusal_number R.FieldCutShort = 8
refusal_number R.UnknownTag = 9
refusal_number R.NameNotFirst = 10
refusal_number R.BadName = 11
refusal_number R.TooFewDensities = 12
refusal_number R.InputTooLong = 13
refusal_number R.BadLine = 14
refusal_number R.TooManyRows = 15
refusal_number R.BadEnd = 16
refusal_number R.PayloadCut = 17
refusal_number R.BadSnText = 18
refusal_number R.Undecided = 19
refusal_number R.WidthTooLarge = 20
refusal_number R.NoSuchNumber = 100

-- what a call carries: 0 where it accepts, else the number of its refusal
abbrev pub carried : {A : Type 0} → Result A Refusal → ℕ
carried (Ok a) = 0
carried (Err r) = refusal_number r

-- what a call that writes one text answers in C: the length where it accepts
abbrev pub written_of : Result ℕ Refusal → Written
written_of (Ok n) = record { refused = 0; length = n }
written_of (Err r) = record { refused = refusal_number r; length = 0 }
