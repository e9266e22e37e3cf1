-- The most bytes that a text of a chart of n measures has: 4 a measure for an SN text, 3 for the standard detailed one, 1 for the other
-- standard ones; "No Streams!" has 11.
-- Assumes nothing.
use Prim.Native.Nat.{ℕ, zero, suc, ◌+◌, ◌*◌, ◌≤◌}
use mathlib.Core.List.{List, [], ◌∷◌, map}
use native.Mathlib.Omega.{arith}
use lib.ListN.{length, length-append, length-map}
use Rattle.number.proofs.Each.{Each}
use Rattle.rules.specs.Chart.{class_of, classes, active, flat, tokens, streams}
use Rattle.rules.specs.Reduced.{Kind, sn, standard, Item, gap, item, sign_of, join, absorb, drop_ones, pieces, sum_of, reduced}
use Rattle.rules.specs.Texts.{part, strung, render, text}
use Rattle.rules.specs.declared.BreakdownMode.{BreakdownMode}
use Rattle.rules.specs.declared.BreakdownMode.TheVariants as Mode
use Rattle.rules.specs.declared.StreamBreakdownLevel.{StreamBreakdownLevel}
use Rattle.rules.specs.declared.StreamBreakdownLevel.TheVariants as Level
use Rattle.rules.specs.Slices.{total}
use Rattle.rules.proofs.Cost.{digits-most, Sound, runs-sound, join-sound, absorb-sound, drop-sound, total_runs, active-short, join-total}
use Rattle.rules.proofs.Cost.{absorb-total, drop-total, strung-most, spaced, sn-gaps, sn-signs, standard-gaps, standard-signs}

abbrev pub most : Kind → ℕ → ℕ
most (sn m) n = 4 * n
most (standard Level.Detailed) n = 3 * n + 11
most (standard Level.Partial) n = n + 11
most (standard Level.Simple) n = n + 11
most (standard Level.Total) n = n + 11

sn-render : (m : BreakdownMode) (is : List Item) → length (render (sn m) is) ≤ length (strung spaced is)
unfolding render
sn-render m [] = omega arith
sn-render m (i ∷ is) = simp length-append (omega arith)

standard-render : (l : StreamBreakdownLevel) (is : List Item) → length (render (standard l) is) ≤ length (strung part is) + 11
unfolding render
standard-render l [] = omega arith
standard-render l (i ∷ is) = omega arith

tokens-total : (cs : List ℕ) → total (tokens cs) ≤ length cs
unfolding tokens
tokens-total cs = rw total_runs (active-short cs)

pieces-total : (cs : List ℕ) → total (pieces cs) ≤ length cs
unfolding pieces
pieces-total cs = rw (total_runs, length-map) (active-short cs)

tokens-sound : (cs : List ℕ) → Each Sound (tokens cs)
unfolding tokens
tokens-sound cs = runs-sound (active cs)

pieces-sound : (cs : List ℕ) → Each Sound (pieces cs)
unfolding pieces
pieces-sound cs = runs-sound (map flat (active cs))

streams-few : (cs : List ℕ) → streams cs ≤ length cs
streams-few [] = omega arith
streams-few (zero ∷ cs) = omega (arith, streams-few cs)
streams-few (suc c ∷ cs) = omega (arith, streams-few cs)

sum-most : (n : ℕ) → length (render (standard Level.Total) (sum_of n)) ≤ n + 11
unfolding render
sum-most zero = omega arith
sum-most (suc n) = simp length-append (omega (arith, digits-most (suc n) (omega arith)))

module _ (m : List ℕ) where
  abbrev cs : List ℕ
  cs = classes m

  each : (k : Kind) → length (text k m) ≤ most k (length cs)
  unfolding text reduced
  each (sn Mode.Detailed) =
      let ts = drop_ones (tokens cs) in
      omega (
        arith,
        sn-render Mode.Detailed (map (item gap) ts),
        strung-most 4 spaced gap sn-gaps ts (drop-sound (tokens cs) (tokens-sound cs)),
        drop-total (tokens cs),
        tokens-total cs,
      )
  each (sn Mode.Partial) =
      let js = join 1 (tokens cs) in
      let s = join-sound 1 (tokens cs) (tokens-sound cs) in
      omega (
        arith,
        sn-render Mode.Partial (map (item (sign_of 32)) (drop_ones js)),
        strung-most 4 spaced (sign_of 32) (sn-signs 32) (drop_ones js) (drop-sound js s),
        drop-total js,
        join-total 1 (tokens cs),
        tokens-total cs,
      )
  each (sn Mode.Simplified) =
      let js = join 4 (tokens cs) in
      let s = absorb-sound 4 js (join-sound 4 (tokens cs) (tokens-sound cs)) in
      omega (
        arith,
        sn-render Mode.Simplified (map (item (sign_of 32)) (drop_ones (absorb 4 js))),
        strung-most 4 spaced (sign_of 32) (sn-signs 32) (drop_ones (absorb 4 js)) (drop-sound (absorb 4 js) s),
        drop-total (absorb 4 js),
        absorb-total 4 js,
        join-total 4 (tokens cs),
        tokens-total cs,
      )
  each (standard Level.Detailed) =
      omega (
        arith,
        standard-render Level.Detailed (map (item gap) (pieces cs)),
        strung-most 3 part gap standard-gaps (pieces cs) (pieces-sound cs),
        pieces-total cs,
      )
  each (standard Level.Partial) =
      omega (
        arith,
        standard-render Level.Partial (map (item (sign_of 31)) (pieces cs)),
        strung-most 1 part (sign_of 31) (standard-signs 31) (pieces cs) (pieces-sound cs),
        pieces-total cs,
      )
  each (standard Level.Simple) =
      let js = join 1 (pieces cs) in
      omega (
        arith,
        standard-render Level.Simple (map (item (sign_of 31)) js),
        strung-most 1 part (sign_of 31) (standard-signs 31) js (join-sound 1 (pieces cs) (pieces-sound cs)),
        join-total 1 (pieces cs),
        pieces-total cs,
      )
  each (standard Level.Total) = omega (arith, sum-most (streams cs), streams-few cs)

  pub text-most : (k : Kind) → length (text k m) ≤ most k (length m)
  text-most k = rw (length-map m class_of) at (each k)
