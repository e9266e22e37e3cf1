-- Demand 3, first half: two calls on charts of equal classes, with equal lent slices and settings, give equal answers and leave equal bytes.
-- Assumes nothing.
use Prim.Native.Nat.{ℕ}
use mathlib.Core.Path.{◌≡◌, sym, ◌∙◌}
use mathlib.Core.List.{List}
use Rattle.number.specs.declared.Written.{Written}
use Rattle.rules.specs.Chart.{classes}
use Rattle.rules.specs.declared.Kind.{Kind}
use Rattle.rules.proofs.Demand.{same_length, same_text, same-texts, same-lengths}
use Rattle.chart_texts.specs.Promises.{Breakdown, Breakdowns}
use Rattle.chart_texts.specs.declared.ThreeWritten.{ThreeWritten}

module _ (a b : List ℕ) (e : classes a ≡ classes b) {old new new' : List ℕ} where
  pub same-breakdown : (k : Kind) {r s : Written} → Breakdown k a old new r → Breakdown k b old new' s → (r ≡ s) × (new ≡ new')
  same-breakdown k {r} {s} p q =
      let t : Breakdown k b old new r = rw (same_length a b e, same_text k a b e) at p in
      (t.answer ∙ sym q.answer, t.bytes ∙ sym q.bytes)

  pub same-breakdowns : (ks : List Kind) {r s : ThreeWritten} → Breakdowns ks a old new r → Breakdowns ks b old new' s
      → (r ≡ s) × (new ≡ new')
  same-breakdowns ks p q =
      let l = same_length a b e in
      let t = same-texts ks a b e in
      (p.answer ∙ rw (l, t, same-lengths ks a b e) (sym q.answer), p.bytes ∙ rw (l, t) (sym q.bytes))
