-- Demand 3, first half: two calls on charts of equal classes, with equal lent slices and settings, give equal answers and leave equal bytes.
-- Assumes nothing.
use Prim.Native.Nat.{ℕ}
use mathlib.Core.Path.{◌≡◌, sym, ◌∙◌}
use mathlib.Core.List.{List}
use Rattle.rules.specs.Chart.{classes}
use Rattle.rules.specs.Texts.{pass_kinds}
use Rattle.rules.proofs.Demand.{same_length, same-texts, same-lengths}
use Rattle.stream_outputs.specs.Promises.{Outputs}
use Rattle.stream_outputs.specs.declared.StreamOutputs.{StreamOutputs}

module _ (a b : List ℕ) (e : classes a ≡ classes b) where
  pub same-outputs : {cs cs₁ cs₂ ns ns₁ ns₂ old new₁ new₂ : List ℕ} {r s : StreamOutputs}
      → Outputs a cs cs₁ ns ns₁ old new₁ r → Outputs b cs cs₂ ns ns₂ old new₂ s → (r ≡ s) × (cs₁ ≡ cs₂) × (ns₁ ≡ ns₂) × (new₁ ≡ new₂)
  same-outputs p q =
      let l = same_length a b e in
      let t = same-texts pass_kinds a b e in
      let n = same-lengths pass_kinds a b e in (
        p.answer ∙ rw (l, e, t, n) (sym q.answer),
        p.in_classes ∙ rw (l, e, t) (sym q.in_classes),
        p.in_lengths ∙ rw (l, e, t) (sym q.in_lengths),
        p.bytes ∙ rw (l, e, t) (sym q.bytes),
      )
