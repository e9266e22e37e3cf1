-- How long the counts line of a chart of the domain is, and where its numbers stand at width 7.
-- Assumes nothing.
use Prim.Native.Nat.{ℕ, zero, suc, ◌+◌, ◌*◌, ◌≤◌, ◌<◌}
use mathlib.Core.Path.{◌≡◌, sym, ap, ◌∙◌}
use mathlib.Core.List.{List, [], ◌∷◌, ◌++◌, append_assoc}
use native.Mathlib.Omega.{arith}
use lib.Dec.{eqb}
use lib.ListN.{length, take, drop, get_or, length-append, length-map}
use lib.Seq.{take_at, drop_at, drop-drop}
use Rattle.number.specs.Digits.{digits, padded}
use Rattle.number.proofs.Digits.{at_most}
use Rattle.number.proofs.Padded.{padded-length}
use Rattle.number.proofs.Each.{Each, none, ◌&◌}
use Rattle.number.proofs.Split.{split}
use Rattle.rules.specs.Bytes.{bytes}
use Rattle.rules.specs.Chart.{class_of, classes, lead_in, active, tail, runs, count, streams, counts, count_numbers}
use Rattle.rules.proofs.Cost.{total_runs, active-short}
use Rattle.rules.proofs.Ends.{parts-length}
use Rattle.counts.proofs.TokenSums.{wide-most}
use Rattle.counts_line.specs.CountsLine.{line, parted_by_spaces, counts_line, board_line}
use Rattle.counts_line.specs.Promises.{board_text}

count-few : (c : ℕ) (cs : List ℕ) → count c cs ≤ length cs
count-few c [] = omega arith
count-few c (d ∷ cs) = split (eqb c d) (λ e. rw e (omega (arith, count-few c cs))) (λ e. rw e (omega (arith, count-few c cs)))

breaks-few : (cs : List ℕ) → (counts cs).total_breaks ≤ length cs
unfolding counts
breaks-few cs = split (eqb (streams cs) 0) (λ e. rw e (omega arith)) (λ e. rw e (omega (arith, wide-most (runs cs), total_runs cs)))

module _ (cs : List ℕ) where
  lead-few : lead_in cs ≤ length cs
  lead-few = omega (arith, parts-length cs)

  tail-few : tail cs ≤ length cs
  tail-few = omega (arith, parts-length cs)

abbrev pub Few : ℕ → Type 0
Few n = n ≤ 1048576

counts-few : (cs : List ℕ) → length cs ≤ 1048576 → Each Few (count_numbers (counts cs))
unfolding counts
counts-few cs h =
    few (count-few 1 cs) h
    & few (count-few 2 cs) h
    & few (count-few 3 cs) h
    & few (count-few 4 cs) h
    & few (breaks-few cs) h
    & few (few (count-few 0 (active cs)) (active-short cs)) h
    & few (lead-few cs) h
    & few (tail-few cs) h
    & none
  where
    few : {n k l : ℕ} → n ≤ k → k ≤ l → n ≤ l
    few a b = omega arith

pub chart-few : (m : List ℕ) → length m ≤ 1048576 → Each Few (count_numbers (counts (classes m)))
chart-few m h = counts-few (classes m) (omega (arith, length-map m class_of))

pub few-digits : (n : ℕ) → Few n → length (digits n) ≤ 7
few-digits n h = at_most 7 n (omega arith) (omega arith)

-- ---- any width up to 7

module _ (width : ℕ) (w : width ≤ 7) where
  padded-short : (n : ℕ) → Few n → length (padded width n) ≤ 7
  padded-short n h = omega (arith, padded-length width n, few-digits n h)

  spaced-short : (ns : List ℕ) → Each Few ns → length (parted_by_spaces width ns) ≤ 8 * length ns
  spaced-short [] none = omega arith
  spaced-short (n ∷ []) (h & none) = omega (arith, padded-short n h)
  spaced-short (n ∷ k ∷ ns) (h & hs) =
      omega (arith, length-append (padded width n) (bytes " " ++ parted_by_spaces width (k ∷ ns)), padded-short n h, spaced-short (k ∷ ns) hs)

pub line-length : (xs : List ℕ) → length (line xs) ≡ length xs + 1
line-length xs = length-append xs (10 ∷ [])

pub counts-short : (m : List ℕ) → length m ≤ 1048576 → length (line (counts_line (counts (classes m)))) ≤ 65
counts-short m h =
    let c = counts (classes m) in
    omega (arith, line-length (counts_line c), spaced-short 0 (omega arith) (count_numbers c) (chart-few m h))

-- ---- width 7

seven : (n : ℕ) → Few n → length (padded 7 n) ≡ 7
seven n h = omega (arith, padded-length 7 n, few-digits n h)

spaced-long : (n : ℕ) (ns : List ℕ) → Each Few (n ∷ ns) → length (parted_by_spaces 7 (n ∷ ns)) + 1 ≡ 8 * length (n ∷ ns)
spaced-long n [] (h & none) = omega (arith, seven n h)
spaced-long n (k ∷ ns) (h & hs) =
    omega (arith, length-append (padded 7 n) (bytes " " ++ parted_by_spaces 7 (k ∷ ns)), seven n h, spaced-long k ns hs)

-- number i of a line and whatever follows it
pub column : (ns : List ℕ) (rest : List ℕ) (i : ℕ) → Each Few ns → i < length ns
    → take 7 (drop (8 * i) (parted_by_spaces 7 ns ++ rest)) ≡ padded 7 (get_or ns i 0)
column [] rest i none h = absurd (omega arith)
column (n ∷ []) rest zero (f & fs) h = take_at (padded 7 n) rest 7 (seven n f)
column (n ∷ []) rest (suc i) (f & fs) h = absurd (omega arith)
column (n ∷ k ∷ ns) rest zero (f & fs) h = rw append_assoc (take_at (padded 7 n) _ 7 (seven n f))
column (n ∷ k ∷ ns) rest (suc i) (f & fs) h =
    let more = parted_by_spaces 7 (k ∷ ns) in
    let place : 8 * suc i ≡ 8 + 8 * i = omega arith in
    let apart : (padded 7 n ++ (bytes " " ++ more)) ++ rest ≡ (padded 7 n ++ bytes " ") ++ (more ++ rest) = simp append_assoc in
    let behind : drop 8 ((padded 7 n ++ bytes " ") ++ (more ++ rest)) ≡ more ++ rest =
    drop_at (padded 7 n ++ bytes " ") (more ++ rest) 8 (length-append (padded 7 n) (bytes " ") ∙ omega (arith, seven n f)) in
    let next : drop (8 * suc i) ((padded 7 n ++ (bytes " " ++ more)) ++ rest) ≡ drop (8 * i) (more ++ rest) =
    rw (apart, place) (sym (drop-drop (8 * i) 8 _) ∙ ap (drop (8 * i)) behind) in
    ap (take 7) next ∙ column (k ∷ ns) rest i fs (omega arith)

pub board-long : (m : List ℕ) → length m ≤ 1048576 → length (board_text m) ≡ 64
unfolding board_text
board-long m h =
    let c = counts (classes m) in
    omega (arith, line-length (board_line c), spaced-long _ _ (chart-few m h))
