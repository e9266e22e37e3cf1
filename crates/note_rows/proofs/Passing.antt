-- The loop of `read_measures` as lists: what is left to ask and to write once some lines are passed. Nothing here speaks of code.
-- Assumes nothing.
use Prim.Native.Nat.{ℕ, ◌+◌, ◌≤◌}
use mathlib.Core.Path.{◌≡◌, refl, sym, ap, ◌∙◌}
use mathlib.Core.Bool.{true}
use mathlib.Core.List.{List, [], ◌∷◌, ◌++◌, map, append_assoc}
use native.Mathlib.Nat.{add-zero, zero-add, add_assoc}
use native.Mathlib.Numerals.{add-one}
use native.Mathlib.Omega.{arith}
use lib.ListN.{length, set}
use borrow.Author.Tests.{lt-ltb}
use Rattle.std.specs.Prelude.{Ok, Err}
use Rattle.number.specs.declared.refusal.Refusal.{Refusal}
use Rattle.number.specs.declared.refusal.Refusal.TheVariants.{TooManyRows}
use Rattle.number.specs.Place.{Wrote}
use Rattle.number.proofs.Split.{split}
use Rattle.number.proofs.Place.{still, wrote}
use Rattle.note_rows.specs.NoteRows.{Lines, end, cut, line, lines_of, is_row, note, is_byte, add_row, measures, density, row_densities}
use Rattle.note_rows.specs.NoteRows.{lines_no, text_no}
use Rattle.note_rows.specs.Steps.{FirstRow, FirstIs, IsFault, MeasuresRead}
use Rattle.note_rows.proofs.Lines.{row-not-byte}
use Rattle.note_rows.proofs.First.{first-fault, adds_one}

-- the densities of some lines
abbrev pub dens : Lines → List ℕ
dens ls = map density (measures ls)

-- n notes more in the first measure
abbrev pub add_notes : ℕ → List ℕ → List ℕ
add_notes n [] = n ∷ []
add_notes n (d ∷ ds) = (n + d) ∷ ds

dens-row : (l : List ℕ) (ms : List (List (List ℕ))) → map density (add_row l ms) ≡ add_notes (note l) (map density ms)
dens-row l [] = rw add-zero
dens-row l (m ∷ ms) = refl

add_twice : (m n : ℕ) (ds : List ℕ) → add_notes m (add_notes n ds) ≡ add_notes (m + n) ds
add_twice m n [] = refl
add_twice m n (d ∷ ds) = rw add_assoc

-- there is always a first measure
add_none : (l : List ℕ) (ms : List (List (List ℕ))) → add_notes 0 (map density (add_row l ms)) ≡ map density (add_row l ms)
add_none l [] = rw zero-add
add_none l (m ∷ ms) = rw zero-add

none_more : (ls : Lines) → add_notes 0 (dens ls) ≡ dens ls
none_more end = refl
none_more cut = refl
none_more (line l ls) =
    split (is_byte 59 l) (λ s. rw s)
    (λ s. split (is_byte 44 l) (λ c. rw (s, c) (rw zero-add)) (λ c. rw (s, c) (add_none l (measures ls))))

-- the first line's part in the densities
row-dens : (l : List ℕ) (ls : Lines) → is_row l ≡ true → dens (line l ls) ≡ add_notes (note l) (dens ls)
row-dens l ls r = rw (row-not-byte 59 l r, row-not-byte 44 l r) (dens-row l (measures ls))

module _ (text old : List ℕ) where
  -- the lines before `left` have passed: `count` measures, and `rows` rows of the one that is open, which has `notes` so far
  pub record Passing (new left : List ℕ) (rows notes count : ℕ) : Type 0 where
    pub passed : List ℕ
    pub most : rows ≤ 192
    pub few : notes ≤ rows
    pub fewer : count + length left ≤ length text
    pub asked : text_no text ≡ lines_no rows (lines_of left)
    pub all : row_densities text ≡ passed ++ add_notes notes (dens (lines_of left))
    pub written : Wrote old new 0 passed count

  pub starts : Passing old text 0 0 0
  unfolding text_no row_densities
  starts =
      record {
        passed = [];
        most = omega arith;
        few = omega arith;
        fewer = omega arith;
        asked = refl;
        all = sym (none_more (lines_of text));
        written = still;
      }

module _ {text old new left : List ℕ} {rows notes count : ℕ} (g : Passing text old new left rows notes count) where
  -- a row
  module _ {n : ℕ} {rest : List ℕ} (f : FirstRow left n rest) where
    pub too_many : rows ≡ 192 → MeasuresRead text old new (Err TooManyRows)
    too_many h = g.asked ∙ rw (f.lines, f.is-row, h)

    pub next_row : (rows ≡ 192 → ⊥) → Passing text old new rest (rows + 1) (notes + n) count
    next_row h =
        let more = lines_of rest in
        let room = lt-ltb rows 192 (omega (arith, g.most, h)) in
        record {
          passed = g.passed;
          most = omega (arith, g.most, h);
          few = omega (arith, g.few, adds_one f.l, f.adds);
          fewer = omega (arith, g.fewer, f.shorter);
          asked = g.asked ∙ rw (f.lines, f.is-row, room, add-one rows);
          all = g.all ∙ rw (f.lines, row-dens f.l more f.is-row, add_twice notes (note f.l) (dens more), f.adds);
          written = g.written;
        }

  -- a faulty line
  pub fault : {e : Refusal} → IsFault left e → MeasuresRead text old new (Err e)
  fault f = g.asked ∙ first-fault f rows

  -- the density of the open measure
  one_more : Wrote old (set new count notes) 0 (g.passed ++ notes ∷ []) (count + 1)
  one_more = wrote g.passed (notes ∷ []) g.written (record { next = refl; bytes = refl })

  -- ","
  pub next-measure : {rest : List ℕ} → FirstIs left (44 ∷ []) rest → Passing text old (set new count notes) rest 0 0 (count + 1)
  unfolding is_row
  next-measure {rest} f =
      let more = lines_of rest in
      record {
        passed = g.passed ++ notes ∷ [];
        most = omega arith;
        few = omega arith;
        fewer = omega (arith, g.fewer, f.shorter);
        asked = g.asked ∙ rw f.lines;
        all = g.all ∙ rw (f.lines, add-zero notes, none_more more) (sym (append_assoc g.passed (notes ∷ []) (dens more)));
        written = one_more;
      }

  -- ";" with nothing after it
  pub done : FirstIs left (59 ∷ []) [] → MeasuresRead text old (set new count notes) (Ok (count + 1))
  unfolding is_row
  done f =
      let whole : row_densities text ≡ g.passed ++ notes ∷ [] = g.all ∙ rw (f.lines, add-zero notes) in
      (g.asked ∙ rw f.lines, sym (ap length whole ∙ sym (one_more.next ∙ zero-add _)), one_more.bytes ∙ sym (rw whole))
