-- For share: the stream measures are those of class 1 to 4.
-- Assumes nothing.
use Prim.Native.Nat.{ℕ, zero, suc, ◌+◌, ◌*◌, ◌/◌, ◌≤◌}
use mathlib.Core.Path.{◌≡◌, refl}
use mathlib.Core.List.{List, [], ◌∷◌}
use native.Mathlib.Omega.{arith}
use lib.Dec.{ltb}
use lib.ListN.{length, length-map}
use borrow.Author.Tests.{ltb-true, ltb-false}
use Rattle.number.proofs.Split.{split}
use Rattle.rules.specs.Chart.{class_of, classes, active, runs, count, streams, counts}
use Rattle.rules.specs.Calls.{share}
use Rattle.rules.specs.declared.StreamCounts.{StreamCounts}
use Rattle.rules.proofs.Steps.{class-0, class-1, class-2, class-3, class-4}
use Rattle.rules.proofs.Cost.{total_runs}
use Rattle.measures.proofs.Part.{part-within, active-length}
use Rattle.counts.specs.Sums.{stream_measures}
use Rattle.counts.proofs.TokenSums.{held-runs, held-most}

pub by-class : (m : List ℕ) → let cs = classes m in count 1 cs + count 2 cs + count 3 cs + count 4 cs ≡ streams cs
by-class [] = refl
by-class (d ∷ m) =
    let r = by-class m in
    split (ltb d 16) (λ e. rw (class-0 d (ltb-true d 16 e)) r)
    (λ e. split (ltb d 20) (λ f. rw (class-1 d (ltb-false d 16 e) (ltb-true d 20 f)) (omega arith))
    (λ f. split (ltb d 24) (λ k. rw (class-2 d (ltb-false d 20 f) (ltb-true d 24 k)) (omega arith))
    (λ k. split (ltb d 32) (λ l. rw (class-3 d (ltb-false d 24 k) (ltb-true d 32 l)) (omega arith))
    (λ l. rw (class-4 d (ltb-false d 32 l)) (omega arith)))))

streams-few : (cs : List ℕ) → streams cs ≤ length cs
streams-few [] = omega arith
streams-few (zero ∷ cs) = omega (arith, streams-few cs)
streams-few (suc c ∷ cs) = omega (arith, streams-few cs)

-- the share, as the code takes it of the counts
abbrev pub share_of : StreamCounts → ℕ
share_of k = (10000 * stream_measures k) / (stream_measures k + k.sn_breaks)

-- of a chart of the domain
pub record Known (m : List ℕ) (k : StreamCounts) : Type 0 where
  pub sum : stream_measures k ≡ streams (classes m)
  pub few : streams (classes m) ≤ 1048576
  pub breaks : k.sn_breaks ≤ 1048576
  pub part : share_of k ≡ share (classes m)

pub known : (m : List ℕ) (k : StreamCounts) → length m ≤ 1048576 → k ≡ counts (classes m) → Known m k
unfolding counts share
known m k h e =
    rw e
    (record {
      sum = by-class m;
      few = omega (arith, streams-few (classes m), length-map m class_of);
      breaks =
          let cs = active (classes m) in
          omega (arith, held-most 0 (runs cs), held-runs 0 cs, total_runs cs, active-length m, part-within m);
      part = rw by-class;
    })
