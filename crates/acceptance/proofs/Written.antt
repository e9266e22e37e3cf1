-- Whatever an accepted call wrote as the text of a kind is document 01's text.
-- Assumes nothing.
use Prim.Native.Nat.{ℕ, zero, suc}
use mathlib.Core.Path.{◌≡◌, refl, ap, ◌∙◌}
use mathlib.Core.List.{List, [], ◌∷◌, ◌++◌, append_assoc}
use native.Mathlib.Omega.{arith}
use lib.ListN.{length, take, drop}
use lib.Seq.{take-append_seam, drop-append_seam}
use Rattle.number.specs.Questions.{accepted, filled}
use Rattle.number.proofs.Each.{none, ◌&◌}
use Rattle.rules.specs.Chart.{classes, counts}
use Rattle.rules.specs.declared.Kind.{Kind}
use Rattle.rules.specs.Texts.{text, end_to_end, lengths_of}
use Rattle.rules.proofs.Lines.{OneLine, text-line}
use Rattle.counts_line.specs.CountsLine.{line, counts_line}
use Rattle.sheet_lines.specs.Sheet.{text_lines, sheet_no, sheet_kinds, chart_of, Printed}
use Rattle.sheet_lines.specs.declared.Sheet.{Sheet}
use Rattle.sheet_lines.proofs.Lines.{one-line-name, sheet-lines}
use Rattle.acceptance.specs.SecondHalf.{nth, KindAt, first_line, after_line, line_at}
use Rattle.acceptance.proofs.Accepted.{all-accepted}

-- a text at the slice's start, marked off by its length
pub marked-off : (q : ℕ) (xs old new : List ℕ) (n : ℕ) → q ≡ 0 → n ≡ accepted q (length xs) 0 → new ≡ accepted q (filled old xs) old → take n new ≡ xs
marked-off zero xs old new n e l b = rw (l, b) (take-append_seam xs (drop (length xs) old))
marked-off (suc q) xs old new n e l b = absurd (omega (arith, e))

-- one of several that stand end to end
pub nth-text : (ks : List Kind) (i : ℕ) (k : Kind) (m rest : List ℕ) → KindAt ks i k → nth (lengths_of ks m) i (end_to_end ks m ++ rest) ≡ text k m
nth-text [] i k m rest h = absurd h
nth-text (k ∷ ks) zero k' m rest h = rw append_assoc (take-append_seam (text k m) (end_to_end ks m ++ rest) ∙ ap (λ (j : Kind). text j m) h)
nth-text (k ∷ ks) (suc i) k' m rest h =
    ap (nth (lengths_of ks m) i)
    (ap (drop (length (text k m))) (append_assoc (text k m) (end_to_end ks m) rest) ∙ drop-append_seam (text k m) (end_to_end ks m ++ rest))
    ∙ nth-text ks i k' m rest h

-- lines
pub first-line : {xs : List ℕ} (rest : List ℕ) → OneLine xs → first_line (line xs ++ rest) ≡ xs
first-line rest none = refl
first-line rest (◌&◌ {x = x} h hs) = rw h (ap {B = List ℕ} (λ l. x ∷ l) (first-line rest hs))

pub after_line_lem : {xs : List ℕ} (rest : List ℕ) → OneLine xs → after_line (line xs ++ rest) ≡ rest
after_line_lem rest none = refl
after_line_lem rest (h & hs) = rw h (after_line_lem rest hs)

pub line-text : (ks : List Kind) (i : ℕ) (k : Kind) (m : List ℕ) → KindAt ks i k → line_at i (text_lines ks m) ≡ text k m
line-text [] i k m h = absurd h
line-text (k ∷ ks) zero k' m h = first-line (text_lines ks m) (text-line k m) ∙ ap (λ (j : Kind). text j m) h
line-text (k ∷ ks) (suc i) k' m h = rw (after_line_lem (text_lines ks m) (text-line k m)) (line-text ks i k' m h)

-- what `sheet` prints behind the name
pub after-name : (input : List ℕ) (r : Sheet) → Printed input r → sheet_no input ≡ 0
    → after_line (take r.length r.bytes) ≡ line (counts_line (counts (classes (chart_of input)))) ++ text_lines sheet_kinds (chart_of input)
after-name input r p e =
    ap after_line (all-accepted.sheet input r p ∙ sheet-lines input e) ∙ after_line_lem _ (one-line-name input e)
