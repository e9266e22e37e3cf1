-- The loop that puts a line for each of the texts that stand end to end, as lists. Nothing here speaks of code.
-- Assumes nothing.
use Rattle.std.proofs.Common.{ℕ, ◌+◌, ◌<◌, ◌≤◌, ◌≡◌, List, ◌∷◌, ◌++◌, length, take, drop, get_or, arith, add-one}
use Rattle.std.proofs.Math.Seq.{drop-cons}
use Rattle.std.specs.List.{sum}
use Rattle.std.proofs.lemmas.List.Sums.{sum_by-cons}
use Rattle.number.specs.Place.{Wrote}
use Rattle.text_buffer.proofs.Reached as Text
use Rattle.counts_line.specs.CountsLine.{line}
use Rattle.sheet_lines.specs.Steps.{cut_lines}

-- the lines of the first i texts are put, and `rest` begins with the next one
pub record Cutting (texts ns old : List ℕ) (at : ℕ) (out : List ℕ) (place : ℕ) (rest : List ℕ) (i : ℕ) : Type 0 where
  pub within : sum (drop i ns) ≤ length rest
  pub going : Text.Reached old at (cut_lines texts ns) (cut_lines rest (drop i ns)) out place

module _ {texts ns old : List ℕ} {at : ℕ} {out : List ℕ} {place : ℕ} {rest : List ℕ} {i : ℕ} (g : Cutting texts ns old at out place rest i) where
  module _ (h : i < length ns) where
    abbrev n : ℕ
    n = get_or ns i 0

    next : drop i ns ≡ n ∷ drop (i + 1) ns
    next = rw add-one (drop-cons ns i 0 h)

    long-enough : n + sum (drop (i + 1) ns) ≤ length rest
    long-enough = let w = rw next at g.within in omega (arith, sum_by-cons (λ (x : ℕ). x) n (drop (i + 1) ns))

    chunk : cut_lines rest (drop i ns) ≡ line (take n rest) ++ cut_lines (drop n rest) (drop (i + 1) ns)
    chunk = rw next

    pub cut-step : {new text others : List ℕ} {r : ℕ} → text ≡ take n rest → others ≡ drop n rest → length others + n ≡ length rest
        → Wrote out new place (line text) r → Cutting texts ns old at new r others (i + 1)
    cut-step e f l w =
        record {
          within = omega (arith, long-enough);
          going = rw f (Text.on g.going (line (take n rest)) (cut_lines (drop n rest) (drop (i + 1) ns)) chunk (rw e at w));
        }
