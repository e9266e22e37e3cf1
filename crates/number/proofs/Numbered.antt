-- Laws of refusals by their numbers.
-- Assumes nothing.
use Rattle.std.proofs.Common.{◌≡◌, arith}
use Rattle.number.specs.declared.refusal.Refusal.{Refusal}
use Rattle.number.specs.declared.refusal.Refusal.TheVariants as R
use Rattle.number.specs.Refusal.{refusal_number}

-- no refusal's number is 0
pub numbered : (r : Refusal) → refusal_number r ≡ 0 → ⊥
numbered R.TooManyMeasures e = omega arith
numbered R.TooFewTokens e = omega arith
numbered R.TooFewSegments e = omega arith
numbered R.TextTooShort e = omega arith
numbered R.NoStreamClass e = omega arith
numbered R.NoLevelFits e = omega arith
numbered R.NoStreamMeasure e = omega arith
numbered R.FieldCutShort e = omega arith
numbered R.UnknownTag e = omega arith
numbered R.NameNotFirst e = omega arith
numbered R.BadName e = omega arith
numbered R.TooFewDensities e = omega arith
numbered R.InputTooLong e = omega arith
numbered R.BadLine e = omega arith
numbered R.TooManyRows e = omega arith
numbered R.BadEnd e = omega arith
numbered R.PayloadCut e = omega arith
numbered R.BadSnText e = omega arith
numbered R.Undecided e = omega arith
numbered R.WidthTooLarge e = omega arith
numbered R.NoSuchNumber e = omega arith
