-- The bytes of a row, and four of them told by numbers. Nothing here speaks of code.
-- Assumes nothing.
use Prim.Native.Nat.{ℕ, ◌+◌, ◌≤◌}
use mathlib.Core.Path.{◌≡◌, refl, sym}
use mathlib.Core.Bool.{Bool, true, false, cond, not, ◌&&◌, ◌||◌}
use mathlib.Core.List.{[], ◌∷◌}
use native.Mathlib.Omega.{arith}
use Rattle.std.specs.Prelude.{Some, None}
use Rattle.number.proofs.Split.{split}
use Rattle.note_rows.specs.NoteRows.{one_of, some_of, row_bytes, note_bytes, is_row, note}
use Rattle.note_rows.specs.Steps.{Told, row_of}

-- four yes
abbrev all-four : Bool → Bool → Bool → Bool → Bool
all-four p q s t = p && (q && (s && (t && true)))

is-yes : (p : Bool) → 1 ≤ cond p 1 0 → p ≡ true
is-yes true h = refl
is-yes false h = absurd (omega (arith, h))

module _ {p q s t : Bool} {i j k l : ℕ} (a : Told p i) (b : Told q j) (c : Told s k) (d : Told t l) where
  four-yes : i + j + k + l ≡ 4 → all-four p q s t ≡ true
  four-yes h =
      let p₁ = is-yes p (rw (sym a.is) (omega (arith, b.most, c.most, d.most))) in
      let q₁ = is-yes q (rw (sym b.is) (omega (arith, a.most, c.most, d.most))) in
      let s₁ = is-yes s (rw (sym c.is) (omega (arith, a.most, b.most, d.most))) in
      let t₁ = is-yes t (rw (sym d.is) (omega (arith, a.most, b.most, c.most))) in
      rw (p₁, q₁, s₁, t₁)

  four-no : (i + j + k + l ≡ 4 → ⊥) → all-four p q s t ≡ false
  four-no h =
      split p (λ e. split q (λ f. split s (λ g. split t
      (λ u. absurd (h (omega (arith, rw e at a.is, rw f at b.is, rw g at c.is, rw u at d.is))))
      (λ u. rw (e, f, g, u))) (λ g. rw (e, f, g))) (λ f. rw (e, f))) (λ e. rw e)

-- some yes, if not four no
some-yes : (p q s t : Bool) → p || (q || (s || (t || false))) ≡ not (all-four (not p) (not q) (not s) (not t))
some-yes true q s t = refl
some-yes false true s t = refl
some-yes false false true t = refl
some-yes false false false true = refl
some-yes false false false false = refl

-- a byte without a note
abbrev Quiet : ℕ → ℕ → Type 0
Quiet b n = Told (not (one_of note_bytes b)) n

module _ (a b c d : ℕ) {i j k l : ℕ} where
  module _ (e : Told (one_of row_bytes a) i) (f : Told (one_of row_bytes b) j) (g : Told (one_of row_bytes c) k) (h : Told (one_of row_bytes d) l) where
    pub a-row : i + j + k + l ≡ 4 → is_row (a ∷ b ∷ c ∷ d ∷ []) ≡ true
    unfolding is_row
    a-row s = four-yes e f g h s

    pub no_row : (i + j + k + l ≡ 4 → ⊥) → None ≡ row_of (a ∷ b ∷ c ∷ d ∷ [])
    unfolding is_row
    no_row s = rw (four-no e f g h s)

  module _ (row : is_row (a ∷ b ∷ c ∷ d ∷ []) ≡ true) (e : Quiet a i) (f : Quiet b j) (g : Quiet c k) (h : Quiet d l) where
    some : some_of note_bytes (a ∷ b ∷ c ∷ d ∷ [])
        ≡ not (all-four (not (one_of note_bytes a)) (not (one_of note_bytes b)) (not (one_of note_bytes c)) (not (one_of note_bytes d)))
    some = some-yes (one_of note_bytes a) (one_of note_bytes b) (one_of note_bytes c) (one_of note_bytes d)

    pub without-note : i + j + k + l ≡ 4 → Some 0 ≡ row_of (a ∷ b ∷ c ∷ d ∷ [])
    unfolding note
    without-note s = rw (row, some, four-yes e f g h s)

    pub with-note : (i + j + k + l ≡ 4 → ⊥) → Some 1 ≡ row_of (a ∷ b ∷ c ∷ d ∷ [])
    unfolding note
    with-note s = rw (row, some, four-no e f g h s)
