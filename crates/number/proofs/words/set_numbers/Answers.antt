-- `number::words::set_numbers` meets its contract.
-- Assumes nothing.
use Prim.Native.Nat.{ℕ, ◌+◌, ◌*◌}
use mathlib.Core.Path.{◌≡◌}
use mathlib.Core.List.{List}
use native.Mathlib.Nat.{zero-add}
use native.Mathlib.Omega.{arith}
use Rattle.number.specs.PlacesSet.{PlacesSet}
use Rattle.number.specs.Word.{number_word}
use Rattle.number.proofs.PlacesSet.{places-none, places-on}
use Rattle.number.proofs.words.set_numbers.Goals as goal

-- ten numbers more
ten-more : (t : ℕ) {old mid new : List ℕ} → PlacesSet (number_word 0) 0 (10 * t) old mid → PlacesSet (number_word (10 * t)) (10 * t) 10 mid new
    → PlacesSet (number_word 0) 0 (10 * (t + 1)) old new
ten-more t {mid = mid} {new = new} s n =
    let e : 10 * (t + 1) ≡ 10 * t + 10 = omega arith in
    let ten : PlacesSet (number_word (10 * t)) (0 + 10 * t) 10 mid new = rw (zero-add (10 * t)) n in
    rw e (places-on (10 * t) 10 (λ i v h w. rw zero-add w) s ten)

pub loop-tens-init : goal.loop-tens-init
loop-tens-init c = places-none

pub loop-tens-preserved : goal.loop-tens-preserved
loop-tens-preserved c =
    ten-more c.loop-tens.tens c.loop-tens.invariant c.set_ten.ensures
