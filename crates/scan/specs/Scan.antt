-- What the scan into tokens and the functions below it ask and promise.
-- Assumes nothing.
use Rattle.std.specs.Prelude.{ℕ, ◌+◌, ◌-◌, ◌≤◌, ◌<◌, ◌^◌, ◌≡◌, ◌≢◌, ◌⊎◌, List, [], ◌∷◌, ◌++◌, map, length, take, drop, get_or}
use Rattle.number.specs.Questions.{filled}
use Rattle.rules.specs.Chart.{class_of, classes, Token, class, len, runs_from, runs, tokens, counts}
use Rattle.rules.specs.Slices.{paired, total}
use Rattle.scan.specs.declared.Bounds.{Bounds}
use Rattle.scan.specs.declared.Pending.{Pending}
use Rattle.scan.specs.declared.ScanAnswer.{ScanAnswer}
use Rattle.scan.specs.declared.Taken.{Taken}

-- densities of lo to lo + more are of class c
pub record Bounded (c : ℕ) (r : Bounds) : Type 0 where
  pub fit : r.lo + r.more < 2 ^ 32
  pub same : (d : ℕ) → r.lo ≤ d → d ≤ r.lo + r.more → class_of d ≡ c

-- the measures from `from` up to r are of class c
pub record OfClass (m : List ℕ) (from c r : ℕ) : Type 0 where
  pub onward : from ≤ r
  pub within : r ≤ length m
  pub each : (i : ℕ) → from ≤ i → i < r → class_of (get_or m i 0) ≡ c

-- a place in s for each run of m, or for `most` of them, a block of 16 more and the pending one
abbrev pub RoomForRuns : List ℕ → ℕ → List ℕ → Type 0
RoomForRuns m most s = (length (runs (classes m)) ≤ length s) ⊎ (most + 17 ≤ length s)

-- `done` is written, and behind it a run of n measures of class c before place i, which is pending
pub record ScanInvariant (m cs₀ ns₀ cs ns : List ℕ) (most c n k i : ℕ) : Type 0 where
  pub done : List Token
  pub whole : done ++ runs_from c n (drop i (classes m)) ≡ runs (classes m)
  pub in_classes : cs ≡ filled cs₀ (map class done ++ (c ∷ []))
  pub in_lengths : ns ≡ filled ns₀ (map len done ++ (n ∷ []))
  pub written : k ≡ length done
  pub small : c ≤ 4
  pub few : k < i
  pub sum : total done + n ≡ i
  pub within : i ≤ length m
  pub low : k < most + 17
  pub room_c : RoomForRuns m most cs₀
  pub room_n : RoomForRuns m most ns₀

-- the invariant at i gives it q measures on, where there is room for as many tokens
abbrev pub Onward : List ℕ → ℕ → ℕ → List ℕ → List ℕ → List ℕ → List ℕ → ℕ → ℕ → ℕ → ℕ → ℕ → ℕ → Type 0
Onward m i q cs₀ cs ns₀ ns c₀ n₀ k₀ c n k =
    (most : ℕ) (old new : List ℕ) → k₀ + q < most + 17 → ScanInvariant m old new cs₀ ns₀ most c₀ n₀ k₀ i → ScanInvariant m old new cs ns most c n k (i + q)

-- `count` measures from `from` on, before a pending run, and room for as many tokens
pub record Steps (m : List ℕ) (from count : ℕ) (cs ns : List ℕ) (p : Pending) : Type 0 where
  pub few : length m ≤ 1048576
  pub within : from + count ≤ length m
  pub most : ℕ
  pub low : p.place + count < most + 17
  pub old : List ℕ
  pub new : List ℕ
  pub invariant : ScanInvariant m old new cs ns most p.class p.length p.place from

-- the pending run r of a scan that was in p, `count` measures on from `from`
pub record StepsTaken (m : List ℕ) (from count : ℕ) (cs₀ cs ns₀ ns : List ℕ) (p r : Pending) : Type 0 where
  pub near : r.place ≤ p.place + count
  pub onward : Onward m from count cs₀ cs ns₀ ns p.class p.length p.place r.class r.length r.place

-- measures of the domain, and room in both slices
pub record ScanAsked (m cs ns : List ℕ) (most : ℕ) : Type 0 where
  pub few : length m ≤ 1048576
  pub room_c : RoomForRuns m most cs
  pub room_n : RoomForRuns m most ns

-- r tokens in two slices, class numbers and lengths; later places as they were
pub record InSlices (ts : List Token) (r : ℕ) (cs₀ cs₁ ns₀ ns₁ : List ℕ) : Type 0 where
  pub number : r ≡ length ts
  pub in_classes : cs₁ ≡ filled cs₀ (map class ts)
  pub in_lengths : ns₁ ≡ filled ns₀ (map len ts)

-- the first runs of m in the two slices, at least `most` or all of them, and those of the measures from `next` on still to come
pub record FirstRuns (m : List ℕ) (most : ℕ) (cs₀ cs ns₀ ns : List ℕ) (r : Taken) : Type 0 where
  pub rest : runs (classes m) ≡ paired (take r.tokens cs) (take r.tokens ns) ++ runs (classes (drop r.next m))
  pub within : r.next ≤ length m
  pub fits : r.tokens ≤ length cs
  pub many : r.next < length m → most ≤ r.tokens
  pub all : length m ≤ most → InSlices (runs (classes m)) r.tokens cs₀ cs ns₀ ns

-- tokens in two slices, of few enough measures
pub record Paired (cs ns : List ℕ) : Type 0 where
  pub long : length cs ≡ length ns
  pub few : total (paired cs ns) ≤ 1048576

-- a chart of the domain, and a place in both slices for each of its tokens
pub record TokenRoom (m cs ns : List ℕ) : Type 0 where
  pub few : length m ≤ 1048576
  pub room_c : length (tokens (classes m)) ≤ length cs
  pub room_n : length (tokens (classes m)) ≤ length ns

-- the scan: the counts, and the tokens in both slices
pub record Scanned (m : List ℕ) (r : ScanAnswer) (cs₀ cs₁ ns₀ ns₁ : List ℕ) : Type 0 where
  pub counted : r.counts ≡ counts (classes m)
  pub written : InSlices (tokens (classes m)) r.tokens cs₀ cs₁ ns₀ ns₁

-- measures that end in a stream measure, and slices for a good number of tokens
pub record RoomForTokens (m cs ns : List ℕ) : Type 0 where
  pub few : length m ≤ 1048576
  pub some : 0 < length m
  pub last : class_of (get_or m (length m - 1) 0) ≢ 0
  pub long : length ns ≡ length cs
  pub room : 32 ≤ length cs

-- the first tokens of m in the two slices, the last of them a run, and those of the measures from `next` on still to come
pub record FirstTokens (m cs₀ cs ns₀ ns : List ℕ) (r : Taken) : Type 0 where
  pub rest : runs (classes m) ≡ paired (take r.tokens cs) (take r.tokens ns) ++ runs (classes (drop r.next m))
  pub some : 1 ≤ r.tokens
  pub fits : r.tokens ≤ length cs
  pub run : get_or cs (r.tokens - 1) 0 ≢ 0
  pub on : 1 ≤ r.next
  pub within : r.next ≤ length m
  pub long_c : length cs ≡ length cs₀
  pub long_n : length ns ≡ length ns₀
