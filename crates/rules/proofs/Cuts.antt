-- A text cut into longest stretches of bytes that pass a test or fail it. Where a text is made of such stretches, and each is read back, the whole is.
-- Assumes nothing.
use Prim.Native.Nat.{ℕ}
use mathlib.Core.Path.{◌≡◌, refl, ap, ◌∙◌}
use mathlib.Core.Bool.{Bool, true, false, cond, not, beq}
use mathlib.Core.List.{List, [], ◌∷◌, ◌++◌, foldr}
use Rattle.rules.specs.Reduced.{Item}
use Rattle.number.proofs.Each.{◌&◌, All, Some}

same : (b : Bool) → beq b b ≡ true
same true = refl
same false = refl

other : (b : Bool) → beq b (not b) ≡ false
other true = refl
other false = refl

module _ (P : ℕ → Bool) where
  -- one byte before a text that is cut already
  abbrev put : ℕ → List (List ℕ) → List (List ℕ)
  put x [] = (x ∷ []) ∷ []
  put x ([] ∷ ws) = (x ∷ []) ∷ ws
  put x ((y ∷ ys) ∷ ws) = cond (beq (P x) (P y)) ((x ∷ y ∷ ys) ∷ ws) ((x ∷ []) ∷ (y ∷ ys) ∷ ws)

  abbrev cuts : List ℕ → List (List ℕ)
  cuts [] = []
  cuts (x ∷ xs) = put x (cuts xs)

  -- the first stretch, if there is one, passes (b true) or fails the test
  abbrev Opens : Bool → List (List ℕ) → Type 0
  Opens b [] = Unit {0}
  Opens b ([] ∷ ws) = ⊥
  Opens b ((y ∷ ys) ∷ ws) = P y ≡ b

  put_first : (b : Bool) (x : ℕ) (ws : List (List ℕ)) → P x ≡ b → Opens (not b) ws → put x ws ≡ (x ∷ []) ∷ ws
  put_first b x [] h k = refl
  put_first b x ([] ∷ ws) h k = absurd k
  put_first b x ((y ∷ ys) ∷ ws) h k = rw (h, k, other)

  cuts_first : (b : Bool) (x : ℕ) (xs rest : List ℕ) → All P b (x ∷ xs) → Opens (not b) (cuts rest) → cuts (x ∷ xs ++ rest) ≡ (x ∷ xs) ∷ cuts rest
  cuts_first b x [] rest (h & hs) k = put_first b x (cuts rest) h k
  cuts_first b x (y ∷ ys) rest (h & (g & hs)) k = ap (put x) (cuts_first b y ys rest (g & hs) k) ∙ rw (h, g, same)

  module _ (read : List ℕ → List Item → List Item) where
    -- each stretch is read, the last one first
    abbrev pub parse : List ℕ → List Item
    parse text = foldr read [] (cuts text)

    -- `Reads b text is`: the text is stretches that pass and fail the test in turn, b saying which comes first, and `read` makes the items `is` of them
    pub data Reads : Bool → List ℕ → List Item → Type 0 where
      ended : {b : Bool} → Reads b [] []
      stretch : {b : Bool} {rest : List ℕ} {is js : List Item} (w : List ℕ) → Some w → All P b w → read w is ≡ js → Reads (not b) rest is
          → Reads b (w ++ rest) js

    parsed : {b : Bool} {text : List ℕ} {is : List Item} → Reads b text is → Opens b (cuts text) × (parse text ≡ is)
    parsed ended = (tt, refl)
    parsed (stretch [] s a e r) = absurd s
    parsed (stretch (x ∷ xs) s (h & hs) e r) = rw (cuts_first _ x xs _ (h & hs) (parsed r).0) (h, ap (read (x ∷ xs)) (parsed r).1 ∙ e)

    pub parse-reads : {b : Bool} {text : List ℕ} {is : List Item} → Reads b text is → parse text ≡ is
    parse-reads r = (parsed r).1
