-- Whether two texts are the same.
-- Assumes nothing.
use Prim.Native.Nat.{ℕ}
use mathlib.Core.Path.{◌≡◌, refl}
use mathlib.Core.Bool.{true, and-eq-true_iff, false≢true}
use mathlib.Core.Logic.{◌↔◌}
use mathlib.Core.List.{List, [], ◌∷◌}
use lib.Dec.{eqb}
use borrow.Author.Tests.{eq-eqb, eqb-true}
use Rattle.rules.specs.Bytes.{same_bytes}

pub bytes_same : (x : List ℕ) → same_bytes x x ≡ true
bytes_same [] = refl
bytes_same (n ∷ x) = rw (eq-eqb n n refl) (bytes_same x)

pub same_bytes_lem : (x y : List ℕ) → same_bytes x y ≡ true → x ≡ y
same_bytes_lem [] [] e = refl
same_bytes_lem [] (n ∷ y) e = absurd (false≢true e)
same_bytes_lem (n ∷ x) [] e = absurd (false≢true e)
same_bytes_lem (n ∷ x) (k ∷ y) e =
    let t = (and-eq-true_iff (eqb n k) (same_bytes x y)).0 e in
    rw (eqb-true n k t.0, same_bytes_lem x y t.1)

-- the test says yes exactly when the texts are the same
pub same-exactly : (x y : List ℕ) → (same_bytes x y ≡ true) ↔ (x ≡ y)
same-exactly x y = (same_bytes_lem x y, λ e. rw e (bytes_same y))
