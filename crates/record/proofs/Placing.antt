-- The loop of `place_densities` as lists. Nothing here speaks of code.
-- Assumes nothing.
use Prim.Native.Nat.{ℕ}
use mathlib.Core.Path.{◌≡◌, ap, ◌∙◌}
use mathlib.Core.List.{List, [], ◌++◌, append_assoc, append-nil}
use native.Mathlib.Omega.{arith}
use lib.ListN.{length}
use Rattle.number.specs.Place.{Room, Wrote}
use Rattle.number.proofs.Place.{wrote, at-start}
use Rattle.record.specs.Record.{fields_of, densities}
use Rattle.record.specs.Steps.{Begins, AllPlaced}
use Rattle.record.specs.declared.field.Field.{Field}

-- the densities of the fields before `left` are written
module _ (bytes old : List ℕ) where
  pub record Placing (new left : List ℕ) (count : ℕ) : Type 0 where
    pub passed : List ℕ
    pub all : densities (fields_of bytes) ≡ passed ++ densities (fields_of left)
    pub room : Room old 0 (densities (fields_of bytes))
    pub written : Wrote old new 0 passed count

module _ {bytes old new left : List ℕ} {count : ℕ} (g : Placing bytes old new left count) where
  -- no density follows
  pub ended : densities (fields_of left) ≡ [] → AllPlaced bytes old new
  ended e =
      let all : densities (fields_of bytes) ≡ g.passed = g.all ∙ rw (e, append-nil) in
      record { placed = rw all (at-start g.passed old new count (omega (arith, ap length all, g.room.fits)) g.written).1 }

  -- a field of densities
  pub step : {f : Field} {rest newer : List ℕ} {r : ℕ} → Begins left f rest → f.tag ≡ 2 → Wrote new newer count f.payload.now r → Placing bytes old newer rest r
  step {f} {rest} b two h =
      let next : densities (fields_of bytes) ≡ g.passed ++ (f.payload.now ++ densities (fields_of rest)) = g.all ∙ rw (b.fields, two) in
      record {
        passed = g.passed ++ f.payload.now;
        all = next ∙ rw append_assoc;
        room = g.room;
        written = wrote g.passed f.payload.now g.written h;
      }
