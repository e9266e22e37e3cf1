-- The laws of specs/Laws hold.
-- Assumes nothing.
use Prim.Native.Nat.{ℕ, zero, suc, ◌+◌, ◌≤◌, ◌<◌}
use mathlib.Core.Path.{◌≡◌, refl, ap, ◌∙◌}
use mathlib.Core.Logic.{◌≢◌}
use mathlib.Core.Bool.{Bool, true, false, cond}
use mathlib.Core.List.{List, [], ◌∷◌, ◌++◌}
use native.Mathlib.Omega.{arith}
use lib.Dec.{ltb, eqb}
use lib.ListN.{length, get_or, length-map, get_or-map}
use borrow.Author.Tests.{ltb-true}
use Rattle.number.specs.Questions.{accepted}
use Rattle.number.proofs.Split.{split, never}
use Rattle.note_rows.specs.NoteRows.{Lines, end, cut, line, before, lines_of, is_row, is_byte, is_end, add_row, measures, density}
use Rattle.note_rows.specs.NoteRows.{row_densities, lines_no, text_no}
use Rattle.note_rows.specs.Laws.{commas, ends_in_last, NoteRowLaws}
use Rattle.note_rows.proofs.Lines.{row-not-byte, the-byte}
use Rattle.note_rows.proofs.First.{not-ended, adds_one}

-- lines that pass behind so many rows of their measure
data Passes : ℕ → Lines → Type 0 where
  row : {rows : ℕ} {l : List ℕ} {ls : Lines} → is_row l ≡ true → rows < 192 → Passes (suc rows) ls → Passes rows (line l ls)
  comma : {rows : ℕ} {ls : Lines} → Passes 0 ls → Passes rows (line (44 ∷ []) ls)
  last : {rows : ℕ} → Passes rows (line (59 ∷ []) end)

is-end : (ls : Lines) → cond {A = ℕ} (is_end ls) 0 16 ≡ 0 → ls ≡ end
is-end end h = refl
is-end cut h = absurd (omega (arith, h))
is-end (line l ls) h = absurd (omega (arith, h))

passes : (rows : ℕ) (ls : Lines) → lines_no rows ls ≡ 0 → Passes rows ls
passes rows end h = absurd (omega (arith, h))
passes rows cut h = absurd (omega (arith, h))
passes rows (line l ls) h =
    split (is_row l)
    (λ r. split (ltb rows 192)
    (λ t. row r (ltb-true rows 192 t) (passes (suc rows) ls (rw (r, t) at h)))
    (λ t. absurd (omega (arith, rw (r, t) at h))))
    (λ r. split (is_byte 44 l)
    (λ c. rw (the-byte 44 l c) (comma (passes 0 ls (rw (r, c) at h))))
    (λ c. split (is_byte 59 l)
    (λ s. rw (the-byte 59 l s, is-end ls (rw (r, c, s) at h)) last)
    (λ s. absurd (omega (arith, rw (r, c, s) at h)))))

-- one measure more than lines ","
same_number : (l : List ℕ) (ms : List (List (List ℕ))) {n : ℕ} → length ms ≡ suc n → length (add_row l ms) ≡ suc n
same_number l [] h = absurd (omega (arith, h))
same_number l (m ∷ ms) h = h

one_more : {rows : ℕ} {ls : Lines} → Passes rows ls → length (measures ls) ≡ suc (commas ls)
one_more (row {l = l} {ls = ls} r t p) = rw (row-not-byte 59 l r, row-not-byte 44 l r) (same_number l (measures ls) (one_more p))
one_more (comma p) = ap suc (one_more p)
one_more last = refl

-- no measure has more than 192 rows, the first together with those before it
Fits : ℕ → List (List (List ℕ)) → Type 0
Fits rows [] = Unit {0}
Fits rows (m ∷ ms) = (rows + length m ≤ 192) × Fits 0 ms

add-fits : (rows : ℕ) (l : List ℕ) (ms : List (List (List ℕ))) → rows < 192 → Fits (suc rows) ms → Fits rows (add_row l ms)
unfolding Fits
add-fits rows l [] t f = (omega arith, tt)
add-fits rows l (m ∷ ms) t f = (omega (arith, f.0), f.1)

all_fit : {rows : ℕ} {ls : Lines} → Passes rows ls → rows ≤ 192 → Fits rows (measures ls)
unfolding Fits
all_fit {rows} (row {l = l} {ls = ls} r t p) h = rw (row-not-byte 59 l r, row-not-byte 44 l r) (add-fits rows l (measures ls) t (all_fit p (omega arith)))
all_fit (comma p) h = (omega arith, all_fit p (omega arith))
all_fit last h = (omega arith, tt)

fits-at : (rows : ℕ) (ms : List (List (List ℕ))) → Fits rows ms → (i : ℕ) → length (get_or ms i []) ≤ 192
unfolding Fits
fits-at rows [] f i = omega arith
fits-at rows (m ∷ ms) f zero = omega (arith, f.0)
fits-at rows (m ∷ ms) f (suc i) = fits-at 0 ms f.1 i

-- a measure has no more notes than rows
few-notes : (rows : List (List ℕ)) → density rows ≤ length rows
few-notes [] = omega arith
few-notes (l ∷ rows) = omega (arith, adds_one l, few-notes rows)

-- lines, and others behind them
glue : Lines → Lines → Lines
glue end ms = ms
glue cut ms = cut
glue (line l ls) ms = line l (glue ls ms)

-- no line lacks its 0A
whole : Lines → Bool
whole end = true
whole cut = false
whole (line l ls) = whole ls

before-whole : (b : ℕ) (ls : Lines) → whole (before b ls) ≡ true → whole ls ≡ true
unfolding whole
before-whole b end h = refl
before-whole b cut h = h
before-whole b (line l ls) h = h

glue-before : (b : ℕ) (ls ms : Lines) → whole (before b ls) ≡ true → before b (glue ls ms) ≡ glue (before b ls) ms
unfolding whole glue
glue-before b end ms h = never (cc)
glue-before b cut ms h = never (cc)
glue-before b (line l ls) ms h = refl

glued : (a b : List ℕ) → whole (lines_of a) ≡ true → lines_of (a ++ b) ≡ glue (lines_of a) (lines_of b)
unfolding whole glue
glued [] b h = refl
glued (x ∷ a) b h =
    split (eqb x 10)
    (λ t. rw (t, glued a b (rw t at h)))
    (λ t. let w = rw t at h in rw (t, glued a b (before-whole x (lines_of a) w)) (glue-before x (lines_of a) (lines_of b) w))

ends-whole : (ls : Lines) → ends_in_last ls ≡ true → whole ls ≡ true
unfolding whole
ends-whole end h = never (cc)
ends-whole cut h = never (cc)
ends-whole (line l ls) h = split (is_byte 59 l) (λ s. nothing ls (rw s at h)) (λ s. ends-whole ls (rw s at h))
  where
    nothing : (ls : Lines) → is_end ls ≡ true → whole ls ≡ true
    nothing end h = refl
    nothing cut h = never (cc)
    nothing (line l ls) h = never (cc)

-- what follows the line ";" decides nothing but 16
module _ (ms : Lines) (some : is_end ms ≡ false) where
  Same : Lines → Type 0
  Same ls = ((rows : ℕ) → lines_no rows (glue ls ms) ≡ accepted (lines_no rows ls) 16 (lines_no rows ls)) × (measures (glue ls ms) ≡ measures ls)

  at_last : (l : List ℕ) (ls : Lines) → is_byte 59 l ≡ true → is_end ls ≡ true → Same (line l ls)
  unfolding Same glue is_row
  at_last l end s h = rw (the-byte 59 l s) (λ rows. rw some, refl)
  at_last l cut s h = never (cc)
  at_last l (line k ls) s h = never (cc)

  earlier : (l : List ℕ) (ls : Lines) → is_byte 59 l ≡ false → Same ls → Same (line l ls)
  unfolding Same glue
  earlier l ls s p =
      split (is_row l)
      (λ r. (λ rows. split (ltb rows 192) (λ t. rw (r, t) (p.0 (suc rows))) (λ t. rw (r, t)), rw (s, p.1)))
      (λ r. split (is_byte 44 l)
      (λ c. (λ rows. rw (r, c) (p.0 0), rw (s, p.1)))
      (λ c. (λ rows. rw (r, c, s), rw (s, p.1))))

  same : (ls : Lines) → ends_in_last ls ≡ true → Same ls
  same end h = never (cc)
  same cut h = never (cc)
  same (line l ls) h = split (is_byte 59 l) (λ s. at_last l ls s (rw s at h)) (λ s. earlier l ls s (same ls (rw s at h)))

some_bytes : (rest : List ℕ) → rest ≢ [] → 0 < length rest
some_bytes [] h = absurd (h refl)
some_bytes (b ∷ rest) h = omega arith

pub laws : NoteRowLaws
unfolding text_no row_densities Same
laws =
    record {
      counted = λ text h. length-map (measures (lines_of text)) density ∙ one_more (passes 0 (lines_of text) h);
      bounded = λ text h i.
          let ms = measures (lines_of text) in
          let few = few-notes (get_or ms i []) in
          (rw (get_or-map density ms i []) few, fits-at 0 ms (all_fit (passes 0 (lines_of text) h) (omega arith)) i);
      behind = λ text rest h n.
          let ls = lines_of text in
          let p = same (lines_of rest) (not-ended rest (some_bytes rest n)) ls h in
          let e = glued text rest (ends-whole ls h) in
          (rw e (p.0 0), rw (e, p.1));
    }
