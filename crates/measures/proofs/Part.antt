-- The active part, by place: what is left of a chart behind its lead-in, up to its last stream measure.
-- Assumes nothing.
use Rattle.std.proofs.Common.{◌≡◌, ℕ, zero, suc, ◌-◌, ◌<◌, ◌≤◌, ltb, List, [], ◌∷◌, ◌++◌, length, get_or, take, drop, sym, refl, ap, ◌∙◌}
use Rattle.std.proofs.Common.{le_of_suc-le-suc, not-suc-le-zero, sub-one, arith, length-drop, length-take, length-take-le, take_all, take-suc}
use Rattle.std.proofs.lemmas.List.{get_or-drop}
use Rattle.std.proofs.Common.{le-ltb, ltb-true, ltb-false, ◌+◌}
use lib.ListN.{length-map, get_or-map}
use Rattle.rules.specs.Chart.{class_of, classes, lead_in, from_first, keep, to_last, active, active_part, runs, tokens}
use Rattle.rules.proofs.Steps.{class-0, map-drop, active-part}
use Rattle.number.proofs.Split.{split}
use Rattle.std.specs.List.{AllWithin, HoldsAt}
use Rattle.std.specs.Prelude.{Option, Some, None, MatchOption}
use Rattle.std.specs.Option.{unwrap_or}
use Rattle.measures.specs.Active.{LedIn, Ended, Stretch}

-- a density of 16 and more is of no break class
pub stream-class : (d : ℕ) → 16 ≤ d → (c : ℕ) × (class_of d ≡ suc c)
unfolding class_of
stream-class d h =
    split (ltb d 20) (λ e. (0, rw (le-ltb d 16 h, e)))
    (λ e. split (ltb d 24) (λ f. (1, rw (le-ltb d 16 h, e, f)))
    (λ f. split (ltb d 32) (λ g. (2, rw (le-ltb d 16 h, e, f, g))) (λ g. (3, rw (le-ltb d 16 h, e, f, g)))))

-- the class at a place
pub class-of-place : (m : List ℕ) (i : ℕ) → get_or (classes m) i 0 ≡ class_of (get_or m i 0)
unfolding class_of
class-of-place m i = get_or-map class_of m i 0

-- the lead-in is as long as the measures below 16 that stand first
lead : (m : List ℕ) (r : ℕ) → r ≤ length m → ((i : ℕ) → i < r → get_or m i 0 < 16) → (r < length m → 16 ≤ get_or m r 0) → r ≡ lead_in (classes m)
lead [] zero h below at = refl
lead [] (suc r) h below at = absurd (not-suc-le-zero h)
lead (d ∷ m) zero h below at = rw (stream-class d (at (omega arith))).1
lead (d ∷ m) (suc r) h below at =
    rw (class-0 d (below 0 (omega arith)))
    (ap suc (lead m r (le_of_suc-le-suc h) (λ i g. below (suc i) (omega arith)) (λ g. at (omega arith))))

pub led-in : (m : List ℕ) (r : ℕ) → r ≤ length m → ((i : ℕ) → i < r → get_or m i 0 < 16) → (r < length m → 16 ≤ get_or m r 0) → LedIn m r
led-in m r h below at = record { number = lead m r h below at; within = h }

-- the same, s breaks being known, by the first stream measure after them
module _ (m : List ℕ) (s : ℕ) (p : Stretch m 0 0 15 s) where
  breaks : (n : ℕ) → AllWithin (λ d. d < 16) (drop s m) 0 n → (i : ℕ) → i < s + n → get_or m i 0 < 16
  breaks n w i h =
      split (ltb i s) (λ e. omega (arith, (p.each i (omega arith) (ltb-true i s e)).1))
      (λ e.
      let g : s ≤ i = ltb-false i s e in
      let back : s + (i - s) ≡ i = omega arith in
      let at : get_or (drop s m) (i - s) 0 ≡ get_or m i 0 = get_or-drop s m (i - s) 0 ∙ rw back in
      rw (← at) (w (i - s) 0 (omega arith) (omega arith)))

  pub led-after : (r : Option ℕ)
      → MatchOption r (AllWithin (λ d. d < 16) (drop s m) 0 (length (drop s m)))
      (λ i. (i < length (drop s m)) × HoldsAt (λ d. 16 ≤ d) (drop s m) i × AllWithin (λ d. d < 16) (drop s m) 0 i)
      → LedIn m (s + unwrap_or r (length (drop s m)))
  led-after None q =
      let all : s + length (drop s m) ≡ length m = omega (arith, length-drop s m, p.within) in
      led-in m _ (omega arith) (breaks (length (drop s m)) q) (λ h. absurd (omega arith))
  led-after (Some i) q =
      let inside : s + i < length m = omega (arith, length-drop s m, q.0) in
      led-in m _ (omega arith) (breaks i q.2) (λ h. rw get_or-drop at (q.1 0))

-- a break at the end goes
last-break : (cs : List ℕ) → to_last (cs ++ (0 ∷ [])) ≡ to_last cs
last-break [] = refl
last-break (c ∷ cs) = rw (last-break cs)

-- a stream measure at the end keeps all
keep-more : (c d : ℕ) (cs : List ℕ) → keep c (cs ++ (d ∷ [])) ≡ c ∷ cs ++ (d ∷ [])
keep-more zero d [] = refl
keep-more zero d (x ∷ cs) = refl
keep-more (suc c) d cs = refl

last-stream : (cs : List ℕ) (c : ℕ) → to_last (cs ++ (suc c ∷ [])) ≡ cs ++ (suc c ∷ [])
last-stream [] c = refl
last-stream (x ∷ cs) c = rw (last-stream cs c) (keep-more x (suc c) cs)

-- the search from the back: the measures from place e on are breaks
module _ (m : List ℕ) where
  pub record Back (e : ℕ) : Type 0 where
    pub within : e ≤ length m
    pub same : to_last (take e (classes m)) ≡ to_last (classes m)

  pub at-end : Back (length m)
  at-end = record { within = omega arith; same = ap to_last (take_all (length m) (classes m) (simp length-map (omega arith))) }

  one_more : (e : ℕ) → e < length m → take (suc e) (classes m) ≡ take e (classes m) ++ (class_of (get_or m e 0) ∷ [])
  one_more e h = take-suc (classes m) e 0 (simp length-map h) ∙ rw class-of-place

  pub break-back : (e : ℕ) → Back e → 0 < e → get_or m (e - 1) 0 < 16 → Back (e - 1)
  break-back zero b p h = absurd (not-suc-le-zero p)
  break-back (suc e) b p h =
      record {
        within = omega arith;
        same = rw (sub-one) (sym (last-break (take e (classes m))) ∙ rw (one_more e b.within, class-0 _ (rw sub-one at h)) at b.same);
      }

  pub stream-back : (e : ℕ) → Back e → 0 < e → 16 ≤ get_or m (e - 1) 0 → Ended m e
  stream-back zero b p h = absurd (not-suc-le-zero p)
  stream-back (suc e) b p h =
      let q : (c : ℕ) × (class_of (get_or m e 0) ≡ suc c) = stream-class _ (rw sub-one at h) in
      record {
        number =
            rw (← b.same, one_more e b.within, q.1, last-stream, ← q.1, ← (one_more e b.within))
            (sym (length-take-le (suc e) (classes m) (simp length-map b.within)));
        within = b.within;
      }

  pub none-back : (e : ℕ) → Back e → e ≤ 0 → Ended m e
  none-back e b h = let z : e ≡ 0 = omega arith in record { number = z ∙ ap length (rw z at b.same); within = b.within }

pub first-drop : (cs : List ℕ) → from_first cs ≡ drop (lead_in cs) cs
first-drop [] = refl
first-drop (zero ∷ cs) = first-drop cs
first-drop (suc c ∷ cs) = refl

-- the active part's classes, of what is left behind the lead-in
active_rest : (m : List ℕ) → active (classes m) ≡ to_last (classes (drop (lead_in (classes m)) m))
unfolding active
active_rest m = rw (map-drop, first-drop)

-- what is left behind the first a measures, as a part `&m[a..]` has it
abbrev pub rest : List ℕ → ℕ → List ℕ
rest m a = take (length m - a) (drop a m)

pub rest-drop : (m : List ℕ) (a : ℕ) → rest m a ≡ drop a m
rest-drop m a = take_all (length m - a) (drop a m) (simp length-drop (omega arith))

-- a measure of it, and how many there are
pub rest-place : (m : List ℕ) (a i : ℕ) → get_or (rest m a) i 0 ≡ get_or m (a + i) 0
rest-place m a i = rw rest-drop (get_or-drop a m i 0)

pub rest-length : (m : List ℕ) (a : ℕ) → length (rest m a) ≡ length m - a
rest-length m a = rw rest-drop (length-drop a m)

-- its measures up to the last stream measure are the active part
pub behind : (m : List ℕ) (a n : ℕ) → LedIn m a → Ended (rest m a) n → take n (rest m a) ≡ active_part m
unfolding active_part
behind m a n l e = rw (active_rest, ← l.number, rest-drop m a) (ap (λ (k : ℕ). take k (drop a m)) (rw rest-drop at e.number))

-- which lies within the chart
pub part-within : (m : List ℕ) → length (active_part m) ≤ length m - lead_in (classes m)
unfolding active_part
part-within m = simp (length-take, length-drop) (omega arith)

pub active-length : (m : List ℕ) → length (active (classes m)) ≡ length (active_part m)
active-length m = sym (ap length (active-part m)) ∙ length-map (active_part m) class_of

-- its runs are the chart's tokens
pub part-runs : (m part : List ℕ) → part ≡ active_part m → runs (classes part) ≡ tokens (classes m)
unfolding tokens
part-runs m part e = ap (λ (p : List ℕ). runs (classes p)) e ∙ ap runs (active-part m)
