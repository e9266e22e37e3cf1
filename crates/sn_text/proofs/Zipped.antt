-- A loop over the first m tokens of two slices that are equally long.
-- Assumes nothing.
use Prim.Native.Nat.{ℕ, ◌<◌, ◌≤◌}
use mathlib.Core.Path.{◌≡◌, ◌∙◌}
use mathlib.Core.List.{List}
use native.Mathlib.Omega.{arith}
use denote.Ref.{Bor}
use lib.ListN.{length, take, get_or, length-take}
use Rattle.std.proofs.iter.Yields.{fronts}
use Rattle.std.proofs.lemmas.Iterator.{zips}
use Rattle.std.proofs.lemmas.List.{get_or-take}
use Rattle.std.proofs.lemmas.Slice.Zip.{zip_turn, zip_end}
use Rattle.std.specs.Iterator.{Yields}
use Rattle.std.specs.Iterator.Adapters.{zip_first, zip_second}
use Rattle.std.specs.Slice.Iter.{iter_rest}
use Rattle.std.proofs.Common.{Some, None, Option}
use Rattle.std.specs.declared.iter.Zip.{Zip}
use Rattle.std.specs.declared.slice.Iter.{Iter}

module _ (cs ns : List ℕ) (m : ℕ) (p : length cs ≡ length ns) (l : m ≤ length cs) (xs : List (Bor ℕ × Bor ℕ)) (s t u : Zip (Iter ℕ) (Iter ℕ))
    (r : Option (Bor ℕ × Bor ℕ)) (first : iter_rest (zip_first s) ≡ take m cs) (second : iter_rest (zip_second s) ≡ take m ns)
    (y : Yields (zips fronts fronts) s xs t) (step : zips fronts fronts t r u) where
  pub front_turn : (q : Bor ℕ × Bor ℕ) → r ≡ Some q → (length xs < m) × (q.0.now ≡ get_or cs (length xs) 0) × (q.1.now ≡ get_or ns (length xs) 0)
  front_turn q e =
      let z = zip_turn (take m cs) (take m ns) xs s t u r first second y q e step in
      let h : length xs < m = omega (arith, z.0, length-take m cs) in
      (h, z.2 0 ∙ get_or-take m cs (length xs) 0 h, z.3 0 ∙ get_or-take m ns (length xs) 0 h)

  pub front_end : r ≡ None → length xs ≡ m
  front_end e = omega (arith, zip_end (take m cs) (take m ns) xs s t u r first second y e step, length-take m cs, length-take m ns)
