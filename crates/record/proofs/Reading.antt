-- From the workers' promises to that of `read_chart_record`. Nothing here speaks of code.
-- Assumes nothing.
use Prim.Native.Nat.{ℕ, zero, suc, ◌≤◌, ◌<◌}
use mathlib.Core.Path.{◌≡◌, refl, sym, ap, ◌∙◌}
use mathlib.Core.Bool.{true}
use mathlib.Core.List.{List}
use lib.ListN.{length}
use Rattle.std.specs.Prelude.{Ok, Err}
use Rattle.number.specs.Refusal.{refusal_number}
use Rattle.number.specs.declared.refusal.Refusal.{Refusal}
use Rattle.number.specs.declared.refusal.Refusal.TheVariants.{TooManyMeasures, TooFewDensities}
use Rattle.number.proofs.Numbered.{numbered}
use Rattle.number.proofs.Questions.{refused-is}
use Rattle.rules.specs.Chart.{densities_no}
use Rattle.rules.proofs.Domain.{many-densities, no-density-place, densities-fit}
use Rattle.record.specs.Record.{fields_of, fields_no, densities, record_no}
use Rattle.record.specs.Steps.{CheckedFields, AllPlaced}
use Rattle.record.specs.Promises.{ReadRecord, record_answer_of}
use Rattle.record.specs.declared.ChartRecord.{ChartRecord}

module _ (bytes old : List ℕ) where
  by-number : (n : ℕ) → (n ≡ 0 → ⊥) → record_no bytes old ≡ n
      → ReadRecord bytes old old (record { refused = n; measures = 0; name_start = 0; name_length = 0 })
  by-number zero ne h = absurd (ne refl)
  by-number (suc n) ne h = record { answer = rw h; placed = rw h }

  refused : (e : Refusal) → record_no bytes old ≡ refusal_number e → ReadRecord bytes old old (record_answer_of (Err e))
  refused e h = by-number (refusal_number e) (numbered e) h

  -- a no of the fields
  pub by-fields : (e : Refusal) → fields_no true (fields_of bytes) ≡ refusal_number e → ReadRecord bytes old old (record_answer_of (Err e))
  unfolding record_no
  by-fields e h =
      refused e (rw h (refused-is (refusal_number e) (densities_no (densities (fields_of bytes)) old) (refusal_number e) (numbered e)))

  -- all fields were accepted
  module _ (k : ChartRecord) (g : CheckedFields bytes (Ok k)) where
    many : length (densities (fields_of bytes)) ≡ k.measures
    many = sym (ap (λ (o : ChartRecord). o.measures) g.1)

    then-chart : record_no bytes old ≡ densities_no (densities (fields_of bytes)) old
    unfolding record_no
    then-chart = rw g.0

    pub too_many : 1048576 < k.measures → ReadRecord bytes old old (record_answer_of (Err TooManyMeasures))
    too_many h = refused TooManyMeasures (then-chart ∙ many-densities (densities (fields_of bytes)) old many h)

    module _ (few : k.measures ≤ 1048576) where
      pub no_place : length old < k.measures → ReadRecord bytes old old (record_answer_of (Err TooFewDensities))
      no_place h = refused TooFewDensities (then-chart ∙ no-density-place (densities (fields_of bytes)) old many few h)

      pub accepts : {new : List ℕ} → k.measures ≤ length old → AllPlaced bytes old new
          → ReadRecord bytes old new (record_answer_of (Ok k))
      accepts fits p =
          let yes : record_no bytes old ≡ 0 = then-chart ∙ densities-fit (densities (fields_of bytes)) old many few fits in
          record { answer = rw (yes, g.1); placed = rw yes p.placed }
