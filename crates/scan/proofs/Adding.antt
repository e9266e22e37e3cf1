-- The loop of `add_up`, as lists: each sum, with what the tokens not yet read hold, is what all hold.
-- Assumes nothing.
use Prim.Native.Nat.{ℕ, zero, suc, ◌+◌, ◌<◌, ◌≤◌}
use mathlib.Core.Path.{◌≡◌}
use mathlib.Core.Bool.{false, cond}
use mathlib.Core.List.{List, [], ◌∷◌}
use native.Mathlib.Numerals.{add-one}
use native.Mathlib.Omega.{arith}
use lib.Dec.{eqb, ltb}
use lib.ListN.{length, drop, get_or}
use borrow.Author.Tests.{ne_eqb}
use Rattle.rules.specs.Chart.{Token, token, wide_gaps}
use Rattle.number.proofs.Split.{split}
use Rattle.rules.specs.Slices.{paired, total}
use Rattle.counts.specs.Sums.{held, wide_of, sums_of}
use Rattle.counts.specs.declared.Sums.{Sums}
use Rattle.scan.specs.Scan.{Paired}
use Rattle.counts.proofs.TokenSums.{held-most, wide-most}
use Rattle.rules.proofs.Pairs.{slices-next, none_left}

total-drop : (i : ℕ) (ts : List Token) → total (drop i ts) ≤ total ts
total-drop zero ts = omega arith
total-drop (suc i) [] = omega arith
total-drop (suc i) (token d n s ∷ ts) = let h = total-drop i ts in omega arith

-- one more token
module _ (x n v all : ℕ) (ts : List Token) where
  more : (k : ℕ) → v + held k (token x n false ∷ ts) ≡ all → cond (eqb k x) (v + n) v + held k ts ≡ all
  more k e = split (eqb k x) (λ q. rw q (omega (arith, rw q at e))) (λ q. rw q (rw q at e))

wide-more : (x n v all : ℕ) (ts : List Token) → v + wide_gaps (token x n false ∷ ts) ≡ all → cond (eqb 0 x) (v + wide_of n) v + wide_gaps ts ≡ all
wide-more zero n v all ts e = split (ltb n 2) (λ q. rw q (omega (arith, rw q at e))) (λ q. rw q (omega (arith, rw q at e)))
wide-more (suc x) n v all ts e = rw (ne_eqb 0 (suc x) (omega arith)) e

pub record Adding (cs ns : List ℕ) (s : Sums) (i : ℕ) : Type 0 where
  pub pairs : Paired cs ns
  pub one : s.run16 + held 1 (drop i (paired cs ns)) ≡ held 1 (paired cs ns)
  pub two : s.run20 + held 2 (drop i (paired cs ns)) ≡ held 2 (paired cs ns)
  pub three : s.run24 + held 3 (drop i (paired cs ns)) ≡ held 3 (paired cs ns)
  pub four : s.run32 + held 4 (drop i (paired cs ns)) ≡ held 4 (paired cs ns)
  pub breaks : s.breaks + held 0 (drop i (paired cs ns)) ≡ held 0 (paired cs ns)
  pub gaps : s.wide + wide_gaps (drop i (paired cs ns)) ≡ wide_gaps (paired cs ns)
  pub within : i ≤ length cs

-- each sum is small
pub record Low (s : Sums) : Type 0 where
  pub run16 : s.run16 ≤ 1048576
  pub run20 : s.run20 ≤ 1048576
  pub run24 : s.run24 ≤ 1048576
  pub run32 : s.run32 ≤ 1048576
  pub breaks : s.breaks ≤ 1048576
  pub wide : s.wide ≤ 1048576

module _ {cs ns : List ℕ} {s : Sums} {i : ℕ} (g : Adding cs ns s i) where
  pub low : Low s
  low =
      let ts = paired cs ns in
      let h = g.pairs.few in
      record {
        run16 = omega (arith, held-most 1 ts);
        run20 = omega (arith, held-most 2 ts);
        run24 = omega (arith, held-most 3 ts);
        run32 = omega (arith, held-most 4 ts);
        breaks = omega (arith, held-most 0 ts);
        wide = omega (arith, wide-most ts);
      }

  module _ (h : i < length cs) where
    -- a length is small
    pub small : get_or ns i 0 ≤ 1048576
    small = omega (arith, g.pairs.few, rw (slices-next cs ns i g.pairs.long h) at (total-drop i (paired cs ns)))

    pub added : {x n w : ℕ} → x ≡ get_or cs i 0 → n ≡ get_or ns i 0 → w ≡ wide_of n
        → Adding cs ns
        (record {
          run16 = cond (eqb 1 x) (s.run16 + n) s.run16;
          run20 = cond (eqb 2 x) (s.run20 + n) s.run20;
          run24 = cond (eqb 3 x) (s.run24 + n) s.run24;
          run32 = cond (eqb 4 x) (s.run32 + n) s.run32;
          breaks = cond (eqb 0 x) (s.breaks + n) s.breaks;
          wide = cond (eqb 0 x) (s.wide + w) s.wide;
        })
        (i + 1)
    added ex en ew =
        let x = get_or cs i 0 in
        let n = get_or ns i 0 in
        let q = slices-next cs ns i g.pairs.long h in
        let rest = drop (suc i) (paired cs ns) in
        rw (ew, en, ex)
        (record {
          pairs = g.pairs;
          one = rw add-one (more x n s.run16 _ rest 1 (rw q at g.one));
          two = rw add-one (more x n s.run20 _ rest 2 (rw q at g.two));
          three = rw add-one (more x n s.run24 _ rest 3 (rw q at g.three));
          four = rw add-one (more x n s.run32 _ rest 4 (rw q at g.four));
          breaks = rw add-one (more x n s.breaks _ rest 0 (rw q at g.breaks));
          gaps = rw add-one (wide-more x n s.wide _ rest (rw q at g.gaps));
          within = omega arith;
        })

  pub finished : length cs ≤ i → s ≡ sums_of (paired cs ns)
  finished h =
      let ts = paired cs ns in
      let q = none_left cs ns i h in
      let e₁ : held 1 ts ≡ s.run16 = omega (arith, rw q at g.one) in
      let e₂ : held 2 ts ≡ s.run20 = omega (arith, rw q at g.two) in
      let e₃ : held 3 ts ≡ s.run24 = omega (arith, rw q at g.three) in
      let e₄ : held 4 ts ≡ s.run32 = omega (arith, rw q at g.four) in
      let e₅ : held 0 ts ≡ s.breaks = omega (arith, rw q at g.breaks) in
      let e₆ : wide_gaps ts ≡ s.wide = omega (arith, rw q at g.gaps) in
      rw (e₁, e₂, e₃, e₄, e₅, e₆)
