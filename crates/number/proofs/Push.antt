-- What meets `OneText` and `Pushed`. Nothing here speaks of code.
-- Assumes nothing.
use Prim.Native.Nat.{ℕ, ◌+◌, ◌-◌, ◌≤◌, ◌<◌}
use mathlib.Core.Path.{◌≡◌, refl, sym, ap}
use mathlib.Core.List.{List, [], ◌∷◌, ◌++◌}
use native.Mathlib.Omega.{arith}
use lib.Dec.{leb}
use lib.ListN.{length, set, replicate}
use borrow.Author.Tests.{le-leb, lt-leb}
use Rattle.number.specs.Digits.{digits, padded}
use Rattle.number.specs.Questions.{Question, question, first_no, filled, room_for, OneText}
use Rattle.number.specs.Pushed.{width_in_range, Pushed}
use Rattle.number.specs.declared.Written.{Written}
use Rattle.number.proofs.Digits.{digits-one, length_some}
use Rattle.number.proofs.Padded.{padded-length, padded-narrow, padded-parts}
use Rattle.number.proofs.Questions.{refused-is}
use Rattle.number.proofs.Backward.{first-set}

module _ (text old : List ℕ) where
  -- question 4 alone
  pub room-yes : length text ≤ length old → first_no (room_for text old ∷ []) ≡ 0
  room-yes h = rw (le-leb (length text) (length old) h)

  pub room-no : length old < length text → first_no (room_for text old ∷ []) ≡ 4
  room-no h = rw (lt-leb (length text) (length old) h)

  pub refused-4 : length old < length text → OneText (first_no (room_for text old ∷ [])) text old old (record { refused = 4; length = 0 })
  refused-4 h = rw (room-no h) (record { answer = refl; bytes = refl })

  pub written : (new : List ℕ) → length text ≤ length old → new ≡ filled old text → (n : ℕ) → n ≡ length text
      → OneText (first_no (room_for text old ∷ [])) text old new (record { refused = 0; length = n })
  written new h e n l = rw (room-yes h) (record { answer = ap (λ (k : ℕ). record { refused = 0; length = k }) l; bytes = e })

  -- a call that answers the number of its first no and changes nothing
  pub refused : (q : ℕ) → (q ≡ 0 → ⊥) → OneText q text old old (record { refused = q; length = 0 })
  refused q ne =
      record {
        answer = ap (λ (l : ℕ). record { refused = q; length = l }) (sym (refused-is q (length text) 0 ne));
        bytes = sym (refused-is q (filled old text) old ne);
      }

module _ (n : ℕ) (old : List ℕ) where
  pub none : length old ≡ 0 → OneText (first_no (room_for (digits n) old ∷ [])) (digits n) old old (record { refused = 4; length = 0 })
  none h = refused-4 (digits n) old (omega (arith, length_some n))

  pub one : n < 10 → 0 < length old
      → OneText (first_no (room_for (digits n) old ∷ [])) (digits n) old (set old 0 (48 + n)) (record { refused = 0; length = 1 })
  one g h =
      let e = digits-one n g in
      written (digits n) old (set old 0 (48 + n)) (rw e h) (rw e (first-set old (48 + n) h)) 1 (rw e)

-- question 20 answered by yes
pub width-yes : (width : ℕ) (qs : List Question) → width ≤ 20 → first_no (width_in_range width ∷ qs) ≡ first_no qs
width-yes width qs h = rw (le-leb width 20 h)

-- n, which has `count` digits, at a width, behind so many spaces; q is the first no
module _ (n width count spaces q : ℕ) (old : List ℕ) (c : count ≡ length (digits n)) (s : spaces ≡ width - count)
    (a : q ≡ first_no (width_in_range width ∷ question 4 (leb (spaces + count) (length old)) ∷ [])) where
  parts : padded width n ≡ replicate spaces 32 ++ digits n
  parts = padded-parts width n c s

  due : spaces + count ≡ length (padded width n)
  due = omega (arith, padded-length width n)

  first-no : first_no (width_in_range width ∷ room_for (padded width n) old ∷ []) ≡ q
  first-no = rw (← due) (sym a)

  pub padded-refused : (q ≡ 0 → ⊥) → Pushed n width old old (record { refused = q; length = 0 })
  padded-refused ne = rw first-no (refused (padded width n) old q ne)

  pub padded-written : q ≡ 0 → (new : List ℕ) → new ≡ filled old (replicate spaces 32 ++ digits n)
      → Pushed n width old new (record { refused = 0; length = spaces + count })
  padded-written accepts new b =
      rw (first-no, accepts)
      (record { answer = ap (λ (k : ℕ). record { refused = 0; length = k }) due; bytes = rw parts b })

-- a width that changes nothing
pub pushed-narrow : (width n : ℕ) (old new : List ℕ) (r : Written) → width < 2
    → OneText (first_no (room_for (digits n) old ∷ [])) (digits n) old new r → Pushed n width old new r
pushed-narrow width n old new r h p = rw (width-yes width _ (omega arith), padded-narrow width n (omega (arith, length_some n))) p
