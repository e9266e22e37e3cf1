-- Demand 3, first half, holds: each promise is made of the chart's classes and the lent slices alone.
-- Assumes nothing.
use Prim.Native.Nat.{ℕ}
use mathlib.Core.Path.{◌≡◌, sym, ◌∙◌}
use mathlib.Core.List.{List}
use Rattle.rules.specs.Chart.{classes}
use Rattle.rules.proofs.Demand.{same-classes}
use Rattle.counts.proofs.Same.{same-counts, same-share}
use Rattle.counts_line.proofs.Same.{same-board-counts}
use Rattle.alike.proofs.Same.{same_alike}
use Rattle.token_view.proofs.Same as token-view
use Rattle.segments.proofs.Same as segments
use Rattle.chart_texts.proofs.Same.{same-breakdown, same-breakdowns}
use Rattle.label.proofs.Same.{same-label}
use Rattle.stream_outputs.proofs.Same.{same-outputs}
use Rattle.record.proofs.Sizes.{same-ending}
use Rattle.record.proofs.Same.{same-record}
use Rattle.sheet_lines.proofs.Same.{same-sheet}
use Rattle.acceptance.specs.FirstHalf.{OfCharts, FirstHalf}

of-charts : (a b : List ℕ) → classes a ≡ classes b → OfCharts a b
of-charts a b e =
    record {
      counts = same-counts a b e;
      share = same-share a b e;
      segment_at = segments.same-nth a b e;
      nth_token = token-view.same-nth a b e;
      segments = λ old new₁ new₂ r₁ r₂ p q. segments.same-segments a b e p q;
      token_view = λ n no₁ no₂ v₁ v₂ t₁ t₂ p q. token-view.same_view a b e p q;
      breakdown = λ k old new₁ new₂ r₁ r₂ p q. same-breakdown a b e k p q;
      breakdowns = λ ks old new₁ new₂ r₁ r₂ p q. same-breakdowns a b e ks p q;
      board_counts = λ old new₁ new₂ r₁ r₂ p q. same-board-counts a b e p q;
      outputs = λ cs cs₁ cs₂ ns ns₁ ns₂ old new₁ new₂ r₁ r₂ p q. same-outputs a b e p q;
      label = λ width old new₁ new₂ r₁ r₂ p q. same-label a b e width p q;
    }

pub first-half : FirstHalf
first-half =
    record {
      charts = λ a b s. of-charts a b (same-classes a b s);
      alike = λ a b c d s t. same_alike a b (same-classes a b s) c d (same-classes c d t);
      sheet = λ a b r₁ r₂ s p q. p.answer ∙ rw (same-sheet a b s) (sym q.answer);
      cut = λ a b s. same-ending a b s.long s.sized;
      chart_record = λ a b old new₁ new₂ r₁ r₂ s p q. same-record a b s p q;
    }
