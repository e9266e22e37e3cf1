-- From the workers' promises to that of `read_note_rows`. Nothing here speaks of code.
-- Assumes nothing.
use Prim.Native.Nat.{ℕ, zero, suc, ◌≤◌, ◌<◌}
use mathlib.Core.Path.{◌≡◌, refl, sym, ◌∙◌}
use mathlib.Core.List.{List, ◌++◌}
use native.Mathlib.Nat.{zero-add}
use lib.ListN.{length, take, drop}
use lib.Seq.{sets, take_at}
use Rattle.std.specs.Prelude.{Result, Ok, Err}
use Rattle.number.specs.Refusal.{refusal_number}
use Rattle.number.specs.declared.refusal.Refusal.{Refusal}
use Rattle.number.specs.declared.refusal.Refusal.TheVariants.{TooManyMeasures, TooFewDensities}
use Rattle.number.specs.Questions.{filled}
use Rattle.number.proofs.Numbered.{numbered}
use Rattle.number.proofs.Place.{at-start}
use Rattle.number.proofs.Questions.{refused-is}
use Rattle.rules.specs.Chart.{densities_no}
use Rattle.rules.proofs.Domain.{many-densities, no-density-place, densities-fit}
use Rattle.note_rows.specs.NoteRows.{row_densities, text_no, note_rows_no}
use Rattle.note_rows.specs.Steps.{MeasuresRead}
use Rattle.note_rows.specs.Promises.{ReadNoteRows, rows_answer_of}

-- densities at a slice's start, which has room for them
at_first : (ds old : List ℕ) → length ds ≤ length old → sets old 0 ds ≡ filled old ds
at_first ds old h = (at-start ds old (sets old 0 ds) (length ds) h (record { next = sym (zero-add (length ds)); bytes = refl })).1

module _ (text old : List ℕ) where
  by-number : (n : ℕ) → (n ≡ 0 → ⊥) → note_rows_no text old ≡ n → ReadNoteRows text old old (record { refused = n; measures = 0 })
  by-number zero ne h = absurd (ne refl)
  by-number (suc n) ne h = record { answer = rw h; placed = rw h }

  refused : (e : Refusal) → note_rows_no text old ≡ refusal_number e → ReadNoteRows text old old (rows_answer_of (Err e))
  refused e h = by-number (refusal_number e) (numbered e) h

  -- a no to the lines
  pub by-lines : (e : Refusal) → text_no text ≡ refusal_number e → ReadNoteRows text old old (rows_answer_of (Err e))
  unfolding note_rows_no
  by-lines e h = refused e (rw h (refused-is (refusal_number e) (densities_no (row_densities text) old) (refusal_number e) (numbered e)))

  -- all lines passed; the densities were kept as far as there was room
  module _ (before after : List ℕ) (n : ℕ) (g : MeasuresRead text before after (Ok n)) where
    then-chart : note_rows_no text old ≡ densities_no (row_densities text) old
    unfolding note_rows_no
    then-chart = rw g.0

    pub too_many : 1048576 < n → ReadNoteRows text old old (rows_answer_of (Err TooManyMeasures))
    too_many h = refused TooManyMeasures (then-chart ∙ many-densities (row_densities text) old (sym g.1) h)

    module _ (few : n ≤ 1048576) where
      pub no_place : length old < n → ReadNoteRows text old old (rows_answer_of (Err TooFewDensities))
      no_place h = refused TooFewDensities (then-chart ∙ no-density-place (row_densities text) old (sym g.1) few h)

      module _ (fits : n ≤ length old) where
        accepts : {new : List ℕ} → new ≡ filled old (row_densities text) → ReadNoteRows text old new (rows_answer_of (Ok n))
        accepts e =
            let yes : note_rows_no text old ≡ 0 = then-chart ∙ densities-fit (row_densities text) old (sym g.1) few fits in
            record { answer = rw (yes, ← g.1); placed = rw yes e }

        -- all of them were kept
        pub by-copy : {copied : List ℕ} → n ≤ length before → copied ≡ take n after
            → ReadNoteRows text old (copied ++ drop n old) (rows_answer_of (Ok n))
        by-copy h e =
            let ds = row_densities text in
            let all : take n after ≡ ds = rw (g.2 ∙ at_first ds before (rw (← g.1) h)) (take_at ds (drop (length ds) before) n (sym g.1)) in
            accepts (rw (e, all, g.1))

        -- they were read once more
        pub by-reading : {new : List ℕ} (r : Result ℕ Refusal) → MeasuresRead text old new r → ReadNoteRows text old new (rows_answer_of r)
        by-reading (Ok m) f =
            let same : m ≡ n = f.1 ∙ sym g.1 in
            rw same (accepts (f.2 ∙ at_first (row_densities text) old (rw (← g.1) fits)))
        by-reading (Err e) f = absurd (numbered e (sym f ∙ g.0))
