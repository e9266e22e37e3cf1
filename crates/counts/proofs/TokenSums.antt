-- The counts, from what the tokens of the active part hold, the lead-in and the tail.
-- Assumes nothing.
use Prim.Native.Nat.{ℕ, zero, suc, ◌+◌, ◌-◌, ◌<◌, ◌≤◌}
use mathlib.Core.Path.{◌≡◌, refl, sym, ap, ◌∙◌}
use mathlib.Core.Bool.{false, cond}
use mathlib.Core.List.{List, [], ◌∷◌, map}
use native.Mathlib.Omega.{arith}
use lib.Dec.{eqb, ltb}
use lib.ListN.{length, length-drop, length-map}
use borrow.Author.Tests.{eqb-true, ne_eqb}
use Rattle.std.proofs.lemmas.List.{nil_from_length}
use Rattle.rules.specs.Chart.{classes, Token, token, class, len, lead_in, from_first, keep, to_last, active, runs_from, runs, tokens}
use Rattle.rules.specs.Chart.{class_of, tail, count, streams, wide_gaps, counts}
use Rattle.number.proofs.Split.{split}
use Rattle.rules.specs.Slices.{paired, total}
use Rattle.rules.proofs.Cost.{total_runs}
use Rattle.rules.proofs.Ends.{parts-length}
use Rattle.counts.specs.Sums.{held, wide_of, sums_of, Summed}
use Rattle.rules.specs.declared.StreamCounts.{StreamCounts}
use Rattle.counts.specs.declared.Sums.{Sums}
use Rattle.measures.proofs.Part.{part-within, active-length}

-- runs hold what the list has
held-from : (c d n : ℕ) (cs : List ℕ) → held c (runs_from d n cs) ≡ cond (eqb c d) n 0 + count c cs
held-from c d n [] = split (eqb c d) (λ e. rw e (omega arith)) (λ e. rw e (omega arith))
held-from c d n (x ∷ cs) =
    split (eqb d x)
    (λ e. rw (e, ← (eqb-true d x e), held-from c d (suc n) cs) (split (eqb c d) (λ q. rw q (omega arith)) (λ q. rw q (omega arith))))
    (λ e. rw (e, held-from c x 1 cs)
    (split (eqb c d)
    (λ q. rw q (split (eqb c x) (λ r. rw r (omega arith)) (λ r. rw r (omega arith))))
    (λ q. rw q (split (eqb c x) (λ r. rw r (omega arith)) (λ r. rw r (omega arith))))))

pub held-runs : (c : ℕ) (cs : List ℕ) → held c (runs cs) ≡ count c cs
held-runs c [] = refl
held-runs c (d ∷ cs) = rw (held-from c d 1 cs) (split (eqb c d) (λ q. rw q (omega arith)) (λ q. rw q (omega arith)))

paired-from : (c n : ℕ) (cs : List ℕ) → paired (map class (runs_from c n cs)) (map len (runs_from c n cs)) ≡ runs_from c n cs
paired-from c n [] = refl
paired-from c n (d ∷ cs) =
    split (eqb c d) (λ e. rw e (paired-from c (suc n) cs)) (λ e. rw e (ap {B = List Token} (λ ts. token c n false ∷ ts) (paired-from d 1 cs)))

pub paired-runs : (cs : List ℕ) → paired (map class (runs cs)) (map len (runs cs)) ≡ runs cs
paired-runs [] = refl
paired-runs (c ∷ cs) = paired-from c 1 cs

-- the active part has all stream measures
count-keep : (c d : ℕ) (cs : List ℕ) → count (suc c) (keep d cs) ≡ count (suc c) (d ∷ cs)
count-keep c zero [] = rw (ne_eqb (suc c) 0 (omega arith))
count-keep c zero (x ∷ cs) = refl
count-keep c (suc d) cs = refl

count-last : (c : ℕ) (cs : List ℕ) → count (suc c) (to_last cs) ≡ count (suc c) cs
count-last c [] = refl
count-last c (d ∷ cs) = rw (count-keep c d (to_last cs), count-last c cs)

pub count-active : (c : ℕ) (cs : List ℕ) → count (suc c) (active cs) ≡ count (suc c) cs
unfolding active
count-active c [] = refl
count-active c (zero ∷ cs) = rw (ne_eqb (suc c) 0 (omega arith)) (count-active c cs)
count-active c (suc d ∷ cs) = count-last c (suc d ∷ cs)

-- and there is one exactly where it is not empty
some : (cs : List ℕ) → 0 < length (active cs) → eqb (streams cs) 0 ≡ false
unfolding active
some [] h = absurd (omega arith)
some (zero ∷ cs) h = some cs h
some (suc c ∷ cs) h = ne_eqb (suc (streams cs)) 0 (omega arith)

none : (cs : List ℕ) → length (active cs) ≡ 0 → streams cs ≡ 0
unfolding active
none [] h = refl
none (zero ∷ cs) h = none cs h
none (suc c ∷ cs) h = absurd (omega arith)

-- the lead-in is a gap
lead-from : (n : ℕ) (cs : List ℕ) → wide_gaps (runs_from 0 n cs) ≡ wide_of (n + lead_in cs) + wide_gaps (runs (from_first cs))
lead-from n [] = let e : n + 0 ≡ n = omega arith in rw e (split (ltb n 2) (λ q. rw q (omega arith)) (λ q. rw q (omega arith)))
lead-from n (zero ∷ cs) = let e : suc n + lead_in cs ≡ n + suc (lead_in cs) = omega arith in rw (← e) (lead-from (suc n) cs)
lead-from n (suc c ∷ cs) =
    let e : n + 0 ≡ n = omega arith in
    rw (ne_eqb 0 (suc c) (omega arith), e) (split (ltb n 2) (λ q. rw q (omega arith)) (λ q. rw q (omega arith)))

lead-wide : (cs : List ℕ) → wide_gaps (runs cs) ≡ wide_of (lead_in cs) + wide_gaps (runs (from_first cs))
lead-wide [] = refl
lead-wide (zero ∷ cs) = let e : 1 + lead_in cs ≡ suc (lead_in cs) = omega arith in lead-from 1 cs ∙ rw e
lead-wide (suc c ∷ cs) = omega arith

-- the tail is a gap: what l measures have of which ts are those up to the last stream measure, a run of n measures of class c being pending before them
abbrev up_to : ℕ → ℕ → List ℕ → ℕ → ℕ
up_to c n ts l = wide_gaps (runs_from c n ts) + wide_of (l - length ts)

abbrev left : ℕ → ℕ → List ℕ → ℕ → ℕ
left zero n [] l = wide_of (n + l)
left zero n (x ∷ ts) l = up_to 0 n (x ∷ ts) l
left (suc c) n ts l = up_to (suc c) n ts l

module _ (cs : List ℕ) where
  one_more : (c n d : ℕ) (ts : List ℕ) → ((c n : ℕ) → wide_gaps (runs_from c n cs) ≡ left c n ts (length cs))
      → wide_gaps (runs_from c n (d ∷ cs)) ≡ left c n (keep d ts) (suc (length cs))
  one_more zero n zero [] ih = let e : suc n + length cs ≡ n + suc (length cs) = omega arith in rw (← e) (ih 0 (suc n))
  one_more zero n zero (y ∷ ts) ih =
      let e : length cs - length (y ∷ ts) ≡ suc (length cs) - suc (length (y ∷ ts)) = omega arith in
      rw (← e) (ih 0 (suc n))
  one_more (suc c) n zero [] ih =
      let e : 1 + length cs ≡ suc (length cs) - 0 = omega arith in
      rw (ne_eqb (suc c) 0 (omega arith), ← e) (ih 0 1 ∙ omega arith)
  one_more (suc c) n zero (y ∷ ts) ih =
      let e : length cs - length (y ∷ ts) ≡ suc (length cs) - suc (length (y ∷ ts)) = omega arith in
      rw (ne_eqb (suc c) 0 (omega arith), ← e) (ih 0 1)
  one_more zero n (suc d) ts ih =
      let e : length cs - length ts ≡ suc (length cs) - suc (length ts) = omega arith in
      rw (ne_eqb 0 (suc d) (omega arith), ← e, ih (suc d) 1) (split (ltb n 2) (λ q. rw q) (λ q. rw q (omega arith)))
  one_more (suc c) n (suc d) ts ih =
      let e : length cs - length ts ≡ suc (length cs) - suc (length ts) = omega arith in
      split (eqb (suc c) (suc d)) (λ q. rw (q, ← e) (ih (suc c) (suc n))) (λ q. rw (q, ← e) (ih (suc d) 1))

tail_from : (cs : List ℕ) (c n : ℕ) → wide_gaps (runs_from c n cs) ≡ left c n (to_last cs) (length cs)
tail_from [] zero n = let e : n + 0 ≡ n = omega arith in rw e (split (ltb n 2) (λ q. rw q) (λ q. rw q))
tail_from [] (suc c) n = refl
tail_from (d ∷ cs) c n = one_more cs c n d (to_last cs) (tail_from cs)

tail-wide : (cs : List ℕ) → wide_gaps (runs (from_first cs)) ≡ wide_gaps (runs (active cs)) + wide_of (tail cs)
unfolding active
tail-wide [] = refl
tail-wide (zero ∷ cs) = tail-wide cs
tail-wide (suc c ∷ cs) = rw (← (length-drop (length (to_last cs)) cs)) at (tail_from cs (suc c) 1)

-- no sum is more than all measures
pub held-most : (c : ℕ) (ts : List Token) → held c ts ≤ total ts
held-most c [] = omega arith
held-most c (token d n s ∷ ts) = let h = held-most c ts in split (eqb c d) (λ e. rw e (omega arith)) (λ e. rw e (omega arith))

pub wide-most : (ts : List Token) → wide_gaps ts ≤ total ts
wide-most [] = omega arith
wide-most (token zero n s ∷ ts) = let h = wide-most ts in split (ltb n 2) (λ e. rw e (omega arith)) (λ e. rw e (omega arith))
wide-most (token (suc d) n s ∷ ts) = let h = wide-most ts in omega arith

-- counts, from such sums and what they leave out: all gaps of 2 or more, and the measures before and after the active part
abbrev pub counts_of : Sums → ℕ → ℕ → ℕ → StreamCounts
counts_of s breaks lead tail =
    record {
      run16_streams = s.run16;
      run20_streams = s.run20;
      run24_streams = s.run24;
      run32_streams = s.run32;
      total_breaks = breaks;
      sn_breaks = s.breaks;
      lead = lead;
      tail = tail;
    }

-- from the sums over the active part's tokens to the counts
module _ {m : List ℕ} {lead : ℕ} {part : List ℕ} {s : Sums} (g : Summed m lead part s) where
  abbrev cs : List ℕ
  cs = classes m

  part-long : length (active cs) ≡ length part
  part-long = active-length m ∙ ap length (sym g.active)

  -- what is left behind the active part
  pub fits : length part ≤ length m - lead
  fits = rw (g.active, g.led.number) (part-within m)

  pub low : s.wide ≤ length part
  unfolding tokens
  low = rw g.held (omega (arith, wide-most (runs (active cs)), total_runs (active cs), part-long))

  tail-number : length m - lead - length part ≡ tail cs
  tail-number = let e = parts-length cs in omega (arith, e, length-map m class_of, g.led.number, part-long)

  -- the lead-in and the tail are gaps
  total-wide : wide_gaps (runs cs) ≡ wide_gaps (runs (active cs)) + wide_of (lead_in cs) + wide_of (tail cs)
  total-wide = omega (arith, lead-wide cs, tail-wide cs)

  pub counted : 0 < length part → (e f : ℕ) → let t = length m - lead - length part in
      e ≡ wide_of lead → f ≡ wide_of t → counts_of s (s.wide + e + f) lead t ≡ counts (classes m)
  unfolding counts tokens
  counted h e f ee ef =
      rw (
        g.held,
        ee,
        ef,
        tail-number,
        g.led.number,
        ← total-wide,
        some cs (rw part-long h),
        held-runs 1 (active cs),
        held-runs 2 (active cs),
        held-runs 3 (active cs),
        held-runs 4 (active cs),
        held-runs 0 (active cs),
        count-active 0 cs,
        count-active 1 cs,
        count-active 2 cs,
        count-active 3 cs,
      )

  -- without a stream measure all measures are in the lead-in
  pub uncounted : length part ≡ 0 → counts_of (sums_of []) 0 lead (length m - lead - length part) ≡ counts (classes m)
  unfolding counts
  uncounted h =
      let e : active cs ≡ [] = nil_from_length (active cs) (part-long ∙ h) in
      let z : (c : ℕ) → count (suc c) cs ≡ 0 = λ c. sym (count-active c cs) ∙ ap (count (suc c)) e in
      rw (tail-number, g.led.number, z 0, z 1, z 2, z 3, none cs (ap length e), e)

-- ---- no more runs than measures

from-few : (c n : ℕ) (cs : List ℕ) → length (runs_from c n cs) ≤ suc (length cs)
from-few c n [] = omega arith
from-few c n (d ∷ cs) =
    split (eqb c d)
    (λ e. rw e (omega (arith, from-few c (suc n) cs)))
    (λ e. rw e (omega (arith, from-few d 1 cs)))

runs-few : (cs : List ℕ) → length (runs cs) ≤ length cs
runs-few [] = omega arith
runs-few (c ∷ cs) = from-few c 1 cs

pub tokens-few : (m : List ℕ) → length (tokens (classes m)) ≤ length m
unfolding tokens
tokens-few m = omega (arith, runs-few (active (classes m)), active-length m, part-within m)
