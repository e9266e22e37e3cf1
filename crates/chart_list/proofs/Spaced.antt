-- The texts of a list's elements, each after a space, one element at a time.
-- Assumes nothing.
use Rattle.std.proofs.Common.{◌≡◌, ℕ, ◌+◌, ◌<◌, List, [], ◌∷◌, ◌++◌, Option, Some, None, length, get_or, take, refl, sym, ap, ◌∙◌, append-nil, add-one, take-suc}
use Rattle.std.proofs.Output.{then_text_assoc}
use Rattle.std.specs.Fmt.{◌++?◌}
use Rattle.chart_list.specs.Line.{spaced}

module _ {A : Type 0} (text : A → Option (List ℕ)) where
  -- nothing before or after a text
  nothing_beside : (o : Option (List ℕ)) → (o ++? Some []) ≡ Some [] ++? o
  nothing_beside None = refl
  nothing_beside (Some a) = ap Some (append-nil a)

  -- one more element at the end
  spaced-push : (xs : List A) (x : A) → spaced text (xs ++ x ∷ []) ≡ spaced text xs ++? Some (32 ∷ []) ++? text x
  spaced-push [] x = sym (then_text_assoc (Some (32 ∷ [])) (text x) (Some [])) ∙ nothing_beside (Some (32 ∷ []) ++? text x)
  spaced-push (y ∷ xs) x =
      rw (
        spaced-push xs x,
        then_text_assoc (Some (32 ∷ [])) (text y ++? spaced text xs) (Some (32 ∷ []) ++? text x),
        then_text_assoc (text y) (spaced text xs) (Some (32 ∷ []) ++? text x),
      )

  -- the elements before i, and the one at i
  pub spaced-take : (xs : List A) (i : ℕ) (x : A) → i < length xs → x ≡ get_or xs i x
      → spaced text (take i xs) ++? Some (32 ∷ []) ++? text x ≡ spaced text (take (i + 1) xs)
  spaced-take xs i x within is = rw (add-one, take-suc xs i x within, ← is, spaced-push)
