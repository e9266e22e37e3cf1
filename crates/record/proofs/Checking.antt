-- The loop of `check_fields` as lists: what is left to ask once some fields are passed. Nothing here speaks of code.
-- Assumes nothing.
use Prim.Native.Nat.{ℕ, ◌+◌, ◌≤◌}
use mathlib.Core.Path.{◌≡◌, ◌∙◌}
use mathlib.Core.Bool.{Bool, true, false, cond}
use mathlib.Core.List.{List}
use native.Mathlib.Omega.{arith}
use lib.ListN.{length, length-append}
use Rattle.number.proofs.Split.{split}
use Rattle.record.specs.Record.{fields_of, field_no, fields_no, densities, name_of}
use Rattle.record.specs.Steps.{Begins}
use Rattle.record.specs.declared.field.Field.{Field}

-- an accepted name is the first field, and accepted densities are not
module _ (first : Bool) (t : ℕ) (p : List ℕ) (yes : field_no first t p ≡ 0) where
  name-first : 1 ≡ t → first ≡ true
  unfolding field_no
  name-first one = split first (λ e. e) (λ e. absurd (omega (arith, rw (e, ← one) at yes)))

  densities-later : 2 ≡ t → first ≡ false
  unfolding field_no
  densities-later two = split first (λ e. absurd (omega (arith, rw (e, ← two) at yes))) (λ e. e)

module _ (bytes : List ℕ) where
  -- some fields were accepted; they have `measures` densities, and the name of `name` bytes. `left` follows them, and `first` is true where there are none
  pub record Checking (left : List ℕ) (first : Bool) (measures name : ℕ) : Type 0 where
    pub few : measures + length left ≤ length bytes
    pub asked : fields_no true (fields_of bytes) ≡ fields_no first (fields_of left)
    pub counted : length (densities (fields_of bytes)) ≡ measures + length (densities (fields_of left))
    pub named : length (name_of (fields_of bytes)) ≡ cond first (length (name_of (fields_of left))) name

-- a whole field is accepted
module _ {bytes left rest : List ℕ} {first : Bool} {measures name : ℕ} (g : Checking bytes left first measures name) where
  module _ {f : Field} (b : Begins left f rest) (yes : field_no first f.tag f.payload.now ≡ 0) where
    asked-on : fields_no true (fields_of bytes) ≡ fields_no false (fields_of rest)
    asked-on = g.asked ∙ rw (b.fields, yes)

    pub a-name : 1 ≡ f.tag → Checking bytes rest false measures (length f.payload.now)
    a-name one =
        record {
          few = omega (arith, g.few, b.sizes);
          asked = asked-on;
          counted = g.counted ∙ rw (b.fields, ← one);
          named = g.named ∙ rw (b.fields, ← one, name-first first f.tag f.payload.now yes one);
        }

    pub some-densities : 2 ≡ f.tag → Checking bytes rest false (measures + length f.payload.now) name
    some-densities two =
        record {
          few = omega (arith, g.few, b.sizes);
          asked = asked-on;
          counted = g.counted ∙ rw (b.fields, ← two, length-append f.payload.now (densities (fields_of rest))) (omega arith);
          named = g.named ∙ rw (densities-later first f.tag f.payload.now yes two);
        }
