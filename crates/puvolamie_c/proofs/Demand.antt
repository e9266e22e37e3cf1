-- Demands 1 and 3 hold for the calls that have a promise of their own.
-- Assumes nothing.
use Prim.Native.Nat.{ℕ}
use mathlib.Core.Path.{◌≡◌, sym, ap, ◌∙◌}
use mathlib.Core.List.{List}
use native.Mathlib.Omega.{arith}
use lib.Dec.{eqb}
use lib.ListN.{take}
use borrow.Author.Tests.{eqb-true}
use Rattle.std.specs.Prelude.{Option, Some, None}
use Rattle.number.specs.declared.Written.{Written}
use Rattle.number.proofs.Split.{split}
use Rattle.rules.specs.Chart.{classes}
use Rattle.rules.specs.Calls.{level_number}
use Rattle.rules.specs.Kinds.{mode_number}
use Rattle.rules.specs.Demand.{SameClasses}
use Rattle.rules.specs.declared.Kind.{Kind}
use Rattle.rules.specs.declared.Kind.TheVariants.{Sn as sn, Standard as standard}
use Rattle.rules.specs.declared.BreakdownMode.{BreakdownMode}
use Rattle.rules.specs.declared.BreakdownMode.TheVariants as Mode
use Rattle.rules.specs.declared.StreamBreakdownLevel.{StreamBreakdownLevel}
use Rattle.rules.specs.declared.StreamBreakdownLevel.TheVariants as Level
use Rattle.rules.proofs.Demand.{same-classes}
use Rattle.chart_texts.proofs.Same.{same-breakdown}
use Rattle.acceptance.specs.SecondHalf.{TextWritten, single}
use Rattle.puvolamie_c.specs.Numbers.{mode_kind, level_kind, OneKind}
use Rattle.puvolamie_c.specs.Demand.{SameAnswers, Demand}
use Rattle.puvolamie_c.proofs.Numbers.{mode-none, level-none}

-- charts of equal classes, the same number and equal lent bytes
same_kind : (x : Option Kind) (a b : List ℕ) → classes a ≡ classes b → (old new₁ new₂ : List ℕ) (r₁ r₂ : Written)
    → OneKind x a old new₁ r₁ → OneKind x b old new₂ r₂ → (r₁ ≡ r₂) × (new₁ ≡ new₂)
same_kind (Some k) a b e old new₁ new₂ r₁ r₂ p q = same-breakdown a b e k p q
same_kind None a b e old new₁ new₂ r₁ r₂ p q = (p.answer ∙ sym q.answer, p.bytes ∙ sym q.bytes)

same-answers : (a b : List ℕ) → SameClasses a b → SameAnswers a b
same-answers a b s =
    let e = same-classes a b s in
    record {
      generate_breakdown = λ n. same_kind (mode_kind n) a b e;
      stream_breakdown = λ n. same_kind (level_kind n) a b e;
      active_range = rw e;
    }

module _ (m old new : List ℕ) (r : Written) where
  no_kind : {x : Option Kind} → x ≡ None → OneKind x m old new r → (r ≡ record { refused = 100; length = 0 }) × (new ≡ old)
  no_kind e p = let q : OneKind None m old new r = rw e at p in (q.answer, q.bytes)

  never-accepted : OneKind None m old new r → r.refused ≡ 0 → ⊥
  never-accepted p z = let e : ◌≡◌ {A = ℕ} 100 0 = sym (ap (λ (w : Written). w.refused) p.answer) ∙ z in omega arith

  mode-written : (n : ℕ) → OneKind (mode_kind n) m old new r → r.refused ≡ 0
      → (mode : BreakdownMode) × (n ≡ mode_number mode) × TextWritten (sn mode) m (take r.length new)
  mode-written n p z =
      split (eqb n 0) (λ e. (Mode.Detailed, eqb-true n 0 e, single _ m old new r (rw e at p) z))
      (λ e. split (eqb n 1) (λ f. (Mode.Partial, eqb-true n 1 f, single _ m old new r (rw (e, f) at p) z))
      (λ f. split (eqb n 2) (λ g. (Mode.Simplified, eqb-true n 2 g, single _ m old new r (rw (e, f, g) at p) z))
      (λ g. absurd (never-accepted (rw (e, f, g) at p) z))))

  level-written : (n : ℕ) → OneKind (level_kind n) m old new r → r.refused ≡ 0
      → (level : StreamBreakdownLevel) × (n ≡ level_number level) × TextWritten (standard level) m (take r.length new)
  level-written n p z =
      split (eqb n 1) (λ e. (Level.Detailed, eqb-true n 1 e, single _ m old new r (rw e at p) z))
      (λ e. split (eqb n 2) (λ f. (Level.Partial, eqb-true n 2 f, single _ m old new r (rw (e, f) at p) z))
      (λ f. split (eqb n 3) (λ g. (Level.Simple, eqb-true n 3 g, single _ m old new r (rw (e, f, g) at p) z))
      (λ g. split (eqb n 4) (λ h. (Level.Total, eqb-true n 4 h, single _ m old new r (rw (e, f, g, h) at p) z))
      (λ h. absurd (never-accepted (rw (e, f, g, h) at p) z)))))

pub demand : Demand
demand =
    record {
      refused = record {
        mode = λ n h m old new r. no_kind m old new r (mode-none n h);
        level = λ n h m old new r. no_kind m old new r (level-none n h);
      };
      first_half = same-answers;
      second_half = record {
        generate_breakdown = λ n m old new r. mode-written m old new r n;
        stream_breakdown = λ n m old new r. level-written m old new r n;
      };
    }
