-- How the promise of the calls that write one text follows for a text that is written. Nothing here speaks of code.
-- Assumes nothing.
use Rattle.std.proofs.Common.{ℕ, ◌≤◌, ◌≡◌, true, List, length, leb}
use borrow.Author.Tests.{le-leb, leb-true}
use Rattle.number.specs.Place.{Wrote}
use Rattle.number.proofs.Place.{one-text}
use Rattle.rules.specs.declared.Kind.{Kind}
use Rattle.rules.specs.Texts.{text}
use Rattle.chart_texts.specs.Promises.{Breakdown}

pub written-one : {n m old new : List ℕ} {r : ℕ} (k : Kind) → n ≡ m → length n ≤ 1048576 → leb (length (text k n)) (length old) ≡ true
    → Wrote old new 0 (text k n) r → Breakdown k m old new (record { refused = 0; length = r })
written-one {n} {old = old} k e few fits w =
    rw (← e) (rw (le-leb (length n) 1048576 few, fits) (one-text (text k n) old _ _ (leb-true _ _ fits) w))
