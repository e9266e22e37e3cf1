-- The levels from one on, and how label's promise follows for a text that is written. Nothing here speaks of code.
-- Assumes nothing.
use Rattle.std.proofs.Common.{ℕ, ◌-◌, ◌≤◌, ◌≡◌, true, List, ◌∷◌, length, drop, leb, Some, refl}
use borrow.Author.Tests.{le-leb, leb-true}
use Rattle.number.specs.Place.{Wrote}
use Rattle.number.proofs.Place.{at-start}
use Rattle.rules.specs.declared.Kind.TheVariants.{Standard as standard}
use Rattle.rules.specs.Texts.{text}
use Rattle.rules.specs.Calls.{levels, level_number, label_choice}
use Rattle.rules.specs.declared.StreamBreakdownLevel.{StreamBreakdownLevel}
use Rattle.rules.specs.declared.StreamBreakdownLevel.TheVariants as Level
use Rattle.label.specs.Promises.{label_no, Label}

-- a level and those after it
pub this-level : (l : StreamBreakdownLevel) → drop (level_number l - 1) levels ≡ l ∷ drop (level_number l) levels
this-level Level.Detailed = refl
this-level Level.Partial = refl
this-level Level.Simple = refl
this-level Level.Total = refl

-- a level that was chosen, whose text had room
pub labelled : {n m old new : List ℕ} {r : ℕ} (width : ℕ) (l : StreamBreakdownLevel) → n ≡ m → length n ≤ 1048576 → Some l ≡ label_choice width n
    → leb (length (text (standard l) n)) (length old) ≡ true → Wrote old new 0 (text (standard l) n) r
    → Label width m old new (record { refused = 0; level = level_number l; length = r })
labelled {n} {old = old} {new} {r} width l e few c h w =
    let s = at-start (text (standard l) n) old new r (leb-true _ _ h) w in
    let no : label_no width n old ≡ 0 = rw (← c, le-leb (length n) 1048576 few, h) in
    rw (← e) (record { answer = rw (no, ← c, s.0); bytes = rw (no, ← c, s.1) })
