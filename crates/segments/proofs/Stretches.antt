-- Stretches of stream measures and of breaks, and what segments they make. Nothing here speaks of code.
-- Assumes nothing.
use Prim.Native.Nat.{ℕ, zero, suc, ◌+◌, ◌-◌, ◌≤◌, ◌<◌}
use mathlib.Core.Path.{◌≡◌, refl, sym, ◌∙◌}
use mathlib.Core.Bool.{Bool, true, false, not, cond, beq}
use mathlib.Core.List.{List, [], ◌∷◌, map}
use native.Mathlib.Nat.{add-zero, suc-ne-zero}
use native.Mathlib.Omega.{arith}
use lib.Dec.{ltb, eqb}
use lib.ListN.{length, drop, get_or, length-map, length-drop, drop_of_length-le}
use lib.Seq.{drop-cons, drop-drop}
use borrow.Author.Tests.{ne_eqb, lt-ltb, le-ltb, not-true, not-false}
use native.Mathlib.Numerals.{add-one}
use Rattle.number.proofs.Split.{split}
use Rattle.rules.specs.Chart.{class_of, classes, Token, token, runs_from, runs, flat, streams}
use Rattle.rules.specs.Calls.{segments_at, segments}
use Rattle.rules.specs.declared.StreamSegment.{StreamSegment}
use Rattle.rules.proofs.Steps.{map-drop}
use Rattle.rules.specs.Slices.{leading}
use Rattle.rules.proofs.View.{first_run}
use Rattle.segments.specs.Steps.{flat_from, stretch, segments_from}

-- ---- how long a stretch is

-- whether a measure ends a stretch of stream measures, or of breaks
abbrev pub ends : Bool → ℕ → Bool
ends stream d = not (beq (not (eqb (class_of d) 0)) stream)

ends_is : (stream : Bool) (c : ℕ) → not (beq (not (eqb c 0)) stream) ≡ not (eqb (cond stream 1 0) (flat c))
ends_is true zero = refl
ends_is true (suc c) = rw (ne_eqb (suc c) 0 (suc-ne-zero c))
ends_is false zero = refl
ends_is false (suc c) = rw (ne_eqb (suc c) 0 (suc-ne-zero c))

module _ (stream : Bool) (m : List ℕ) (i : ℕ) where
  module _ (h : i < length m) where
    -- the test of a measure, by its class
    same_test : ends stream (get_or m i 0) ≡ not (eqb (cond stream 1 0) (flat (class_of (get_or m i 0))))
    same_test = ends_is stream (class_of (get_or m i 0))

    pub stretch-stop : ends stream (get_or m i 0) ≡ true → stretch stream m i ≡ 0
    stretch-stop t = rw (drop-cons m i 0, not-true (eqb (cond stream 1 0) (flat (class_of (get_or m i 0)))) (sym same_test ∙ t))

    pub stretch-more : ends stream (get_or m i 0) ≡ false → stretch stream m i ≡ stretch stream m (i + 1) + 1
    stretch-more t = rw (add-one i, drop-cons m i 0, not-false (eqb (cond stream 1 0) (flat (class_of (get_or m i 0)))) (sym same_test ∙ t), add-one)

  pub stretch-end : length m ≤ i → stretch stream m i ≡ 0
  stretch-end h = rw (drop_of_length-le m h)

-- ---- the first stretch of a list, and the segments

one-add : (n : ℕ) → 1 + n ≡ suc n
one-add n = omega arith

abbrev gap : ℕ → ℕ → StreamSegment
gap at n = record { start = at; end = at + n; is_break = true }

abbrev piece : ℕ → ℕ → StreamSegment
piece at n = record { start = at; end = at + n; is_break = false }

-- none of the class is left after those at the front
leading-all : (c : ℕ) (xs : List ℕ) → leading c (drop (leading c xs) xs) ≡ 0
leading-all c [] = refl
leading-all c (x ∷ xs) = split (eqb c x) (λ e. rw e (leading-all c xs)) (λ e. rw (e, e))

-- a stream measure ends a gap
stream-ends : (c : ℕ) → eqb 0 (suc c) ≡ false
stream-ends c = ne_eqb 0 (suc c) (λ e. suc-ne-zero c (sym e))

module _ (at : ℕ) where
  -- a gap of 2 or more is a segment, a smaller one is passed over
  gap-wide : (xs : List ℕ) → 2 ≤ leading 0 xs → segments_at at (runs xs) ≡ gap at (leading 0 xs) ∷ segments_at (at + leading 0 xs) (runs (drop (leading 0 xs) xs))
  gap-wide [] h = absurd (omega arith)
  gap-wide (zero ∷ xs) h = rw (first_run 0 1 xs, one-add, le-ltb (suc (leading 0 xs)) 2 h)
  gap-wide (suc c ∷ xs) h = absurd (omega (arith, rw (stream-ends c) at h))

  gap-narrow : (xs : List ℕ) → leading 0 xs < 2 → segments_at at (runs xs) ≡ segments_at (at + leading 0 xs) (runs (drop (leading 0 xs) xs))
  gap-narrow [] h = refl
  gap-narrow (zero ∷ xs) h = rw (first_run 0 1 xs, one-add, lt-ltb (suc (leading 0 xs)) 2 h)
  gap-narrow (suc c ∷ xs) h = rw (stream-ends c, add-zero)

  -- without a gap in front: a piece
  piece-first : (cs : List ℕ) → 0 < length cs → leading 0 (map flat cs) ≡ 0
      → let n = leading 1 (map flat cs) in segments_at at (runs (map flat cs)) ≡ piece at n ∷ segments_at (at + n) (runs (drop n (map flat cs)))
  piece-first [] h e = absurd (omega arith)
  piece-first (zero ∷ cs) h e = absurd (omega arith)
  piece-first (suc c ∷ cs) h e = rw (first_run 1 1 (map flat cs), one-add)

-- ---- the segments from a place on

module _ (m : List ℕ) (at : ℕ) where
  past : (n : ℕ) → drop n (flat_from m at) ≡ flat_from m (at + n)
  past n = rw (← map-drop, ← map-drop, drop-drop)

  pub wide_step : (end : ℕ) → end ≡ at + stretch false m at → 2 ≤ end - at
      → segments_from m at ≡ record { start = at; end = end; is_break = true } ∷ segments_from m end
  unfolding segments_from
  wide_step end e h = rw (e, ← (past (stretch false m at))) (gap-wide at (flat_from m at) (omega arith))

  narrow_step : stretch false m at < 2 → segments_from m at ≡ segments_from m (at + stretch false m at)
  unfolding segments_from
  narrow_step h = rw (← (past (stretch false m at))) (gap-narrow at (flat_from m at) h)

  pub no_step : length m ≤ at → segments_from m at ≡ []
  unfolding segments_from
  no_step h = rw (drop_of_length-le m h)

  piece-step : at < length m → stretch false m at ≡ 0 → segments_from m at ≡ piece at (stretch true m at) ∷ segments_from m (at + stretch true m at)
  unfolding segments_from
  piece-step h e = rw (← (past (stretch true m at))) (piece-first at (classes (drop at m)) (rw (length-map, length-drop) (omega arith)) e)

  gap-passed : stretch false m (at + stretch false m at) ≡ 0
  gap-passed = rw (← (past (stretch false m at))) (leading-all 0 (flat_from m at))

-- past a gap of less than 2, up to `gap_end`: the end, or a piece
module _ (m : List ℕ) (at gap_end : ℕ) (g : gap_end ≡ at + stretch false m at) (h : gap_end - at < 2) where
  passed : segments_from m at ≡ segments_from m gap_end
  passed = rw g (narrow_step m at (omega arith))

  pub done-step : length m ≤ gap_end → segments_from m at ≡ []
  done-step l = passed ∙ no_step m gap_end l

  pub piece_step : (end : ℕ) → end ≡ gap_end + stretch true m gap_end → gap_end < length m
      → segments_from m at ≡ record { start = gap_end; end = end; is_break = false } ∷ segments_from m end
  piece_step end e l = passed ∙ rw e (piece-step m gap_end l (rw g (gap-passed m at)))

-- ---- no chart has more segments than measures

runs-few : (c n : ℕ) (cs : List ℕ) → length (runs_from c n cs) ≤ suc (length cs)
runs-few c n [] = omega arith
runs-few c n (d ∷ cs) = split (eqb c d) (λ e. rw e (omega (arith, runs-few c (suc n) cs))) (λ e. rw e (omega (arith, runs-few d 1 cs)))

tokens-few : (at : ℕ) (ts : List Token) → length (segments_at at ts) ≤ length ts
tokens-few at [] = omega arith
tokens-few at (token zero n s ∷ ts) = split (ltb n 2) (λ e. rw e (omega (arith, tokens-few (at + n) ts))) (λ e. rw e (omega (arith, tokens-few (at + n) ts)))
tokens-few at (token (suc c) n s ∷ ts) = omega (arith, tokens-few (at + n) ts)

all-few : (xs : List ℕ) → length (segments_at 0 (runs xs)) ≤ length xs
all-few [] = omega arith
all-few (x ∷ xs) = omega (arith, tokens-few 0 (runs (x ∷ xs)), runs-few x 1 xs)

pub segments-few : (m : List ℕ) → length (segments (classes m)) ≤ length m
unfolding segments
segments-few m =
    split (eqb (streams (classes m)) 0)
    (λ e. rw e (omega arith))
    (λ e. rw e (omega (arith, all-few (map flat (classes m)), length-map (classes m) flat, length-map m class_of)))

-- ---- where the steps begin

streams-none : (cs : List ℕ) → length cs ≤ leading 0 (map flat cs) → streams cs ≡ 0
streams-none [] h = refl
streams-none (zero ∷ cs) h = streams-none cs (omega arith)
streams-none (suc c ∷ cs) h = absurd (omega arith)

streams-some : (cs : List ℕ) → leading 0 (map flat cs) < length cs → eqb (streams cs) 0 ≡ false
streams-some [] h = absurd (omega arith)
streams-some (zero ∷ cs) h = streams-some cs (omega arith)
streams-some (suc c ∷ cs) h = ne_eqb (suc (streams cs)) 0 (suc-ne-zero (streams cs))

module _ (m : List ℕ) where
  pub from_start : stretch false m 0 < length m → segments_from m 0 ≡ segments (classes m)
  unfolding segments segments_from
  from_start h = rw (streams-some (classes m) (rw length-map h))

  pub from_last : length m ≤ stretch false m 0 → (at : ℕ) → at ≡ stretch false m 0 → segments_from m at ≡ segments (classes m)
  unfolding segments
  from_last h at e = no_step m at (omega arith) ∙ rw (streams-none (classes m) (rw length-map h))
