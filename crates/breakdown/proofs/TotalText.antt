-- The text of Total.
-- Assumes nothing.
use Prim.Native.Nat.{ℕ, zero, suc}
use mathlib.Core.Path.{◌≡◌, refl}
use mathlib.Core.Logic.{◌≢◌}
use mathlib.Core.List.{◌++◌, append-nil}
use Rattle.number.specs.Digits.{digits}
use Rattle.rules.specs.Bytes.{bytes}
use Rattle.rules.specs.Texts.{render}
use Rattle.standard_text.specs.Standard.{total_text}

pub total-some : (n : ℕ) → n ≢ 0 → total_text n ≡ digits n ++ bytes " Total"
unfolding render
total-some zero h = absurd (h refl)
total-some (suc n) h = rw append-nil

pub total-none : (n : ℕ) → n ≡ 0 → total_text n ≡ bytes "No Streams!"
unfolding render
total-none n h = rw h
