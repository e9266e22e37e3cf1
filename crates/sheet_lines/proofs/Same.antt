-- Alike records: `sheet` prints the same bytes for both.
-- Assumes nothing.
use Prim.Native.Nat.{ℕ}
use mathlib.Core.Path.{◌≡◌, refl, ap}
use mathlib.Core.List.{List, [], ◌∷◌, ◌++◌}
use lib.Dec.{leb}
use Rattle.number.specs.Questions.{question, first_no, accepted}
use Rattle.number.specs.Digits.{digits}
use Rattle.rules.specs.Bytes.{bytes}
use Rattle.rules.specs.Chart.{classes, counts}
use Rattle.rules.specs.declared.Kind.{Kind}
use Rattle.rules.specs.declared.Kind.TheVariants.{Standard as standard}
use Rattle.rules.specs.Texts.{pass_kinds}
use Rattle.rules.specs.declared.StreamCounts.{StreamCounts}
use Rattle.rules.specs.declared.StreamBreakdownLevel.TheVariants as Level
use Rattle.rules.proofs.Demand.{same_length, same_text, same-texts}
use Rattle.counts_line.specs.CountsLine.{line, counts_line}
use Rattle.record.specs.Alike.{Alike}
use Rattle.record.proofs.Same.{same-no}
use Rattle.stream_outputs.specs.Promises.{pass_no}
use Rattle.sheet_lines.specs.Sheet.{places, text_bytes, total_bytes, first_refusal, chart_of, total_no, sheet_no}
use Rattle.sheet_lines.specs.Sheet.{sheet_kinds, text_lines, sheet_bytes}

same_lines : (ks : List Kind) (a b : List ℕ) → classes a ≡ classes b → text_lines ks a ≡ text_lines ks b
same_lines [] a b e = refl
same_lines (k ∷ ks) a b e = rw (same_text k a b e, same_lines ks a b e)

-- the numbers of the pass and of Total depend on the classes alone
module _ (a b : List ℕ) (e : classes a ≡ classes b) where
  same-pass : (cs ns old : List ℕ) → pass_no a cs ns old ≡ pass_no b cs ns old
  same-pass cs ns old = rw (same_length a b e, e, same-texts pass_kinds a b e)

  same_total : (old : List ℕ) → total_no a old ≡ total_no b old
  same_total old = rw (same_length a b e, same_text (standard Level.Total) a b e)

module _ (a b : List ℕ) (s : Alike a b) where
  e : classes (chart_of a) ≡ classes (chart_of b)
  e = s.charts

  same_number : sheet_no a ≡ sheet_no b
  unfolding sheet_no
  same_number =
      four (ap (λ (n : ℕ). first_no (question 13 (leb n 16384) ∷ [])) s.long) (same-no a b s places places refl)
      (same-pass (chart_of a) (chart_of b) e places places text_bytes) (same_total (chart_of a) (chart_of b) e total_bytes)
    where
      four : {w x y z w' x' y' z' : ℕ} → w ≡ w' → x ≡ x' → y ≡ y' → z ≡ z' → first_refusal (w ∷ x ∷ y ∷ z ∷ []) ≡ first_refusal (w' ∷ x' ∷ y' ∷ z' ∷ [])
      four p q r t = cc

  pub same-sheet : sheet_bytes a ≡ sheet_bytes b
  unfolding sheet_bytes
  same-sheet =
      three (same_number) s.names (ap counts e) (same_lines sheet_kinds (chart_of a) (chart_of b) e)
    where
      three : {n n' : ℕ} {x x' : List ℕ} {c c' : StreamCounts} {z z' : List ℕ} → n ≡ n' → x ≡ x' → c ≡ c' → z ≡ z'
          → accepted n (line x ++ (line (counts_line c) ++ z)) (line (bytes "refused " ++ digits n))
          ≡ accepted n' (line x' ++ (line (counts_line c') ++ z')) (line (bytes "refused " ++ digits n'))
      three p q r t = rw (p, q, r, t)
