-- The laws of specs/Laws hold.
-- Assumes nothing.
use Prim.Native.Nat.{ℕ, zero, suc, ◌+◌, ◌≤◌}
use mathlib.Core.Path.{◌≡◌, refl, sym, ap, ◌∙◌}
use mathlib.Core.List.{List, [], ◌∷◌}
use native.Mathlib.Omega.{arith}
use lib.ListN.{length, length-map}
use borrow.Author.Tests.{le-leb, ne_eqb}
use Rattle.number.specs.Questions.{first_no, accepted}
use Rattle.rules.specs.Chart.{in_domain, class_of, classes, active, active_part, count, streams, counts}
use Rattle.rules.specs.Calls.{share}
use Rattle.rules.proofs.Ends.{three-parts, parts-length, quiet-lead}
use Rattle.rules.proofs.Share.{share-most}
use Rattle.rules.proofs.Steps.{active-part}
use Rattle.counts.specs.Promises.{has_stream}
use Rattle.counts.specs.Laws.{AllCounted, ShareLaws}
use Rattle.counts.proofs.TokenSums.{count-active}
use Rattle.counts.proofs.Shared.{by-class}

-- a refused share is 0
accepted-most : (q n most : ℕ) → n ≤ most → accepted q n 0 ≤ most
accepted-most zero n most h = h
accepted-most (suc q) n most h = omega arith

-- the active part has all stream measures
streams-active : (m : List ℕ) → streams (active (classes m)) ≡ streams (classes m)
streams-active m =
    let cs = classes m in
    let part = rw (active-part m, count-active 0 cs, count-active 1 cs, count-active 2 cs, count-active 3 cs) at (by-class (active_part m)) in
    sym part ∙ by-class m

-- a measure is a break or a stream measure
breaks-streams : (cs : List ℕ) → count 0 cs + streams cs ≡ length cs
breaks-streams [] = refl
breaks-streams (zero ∷ cs) = omega (arith, breaks-streams cs)
breaks-streams (suc c ∷ cs) = rw (ne_eqb 0 (suc c) (omega arith)) (omega (arith, breaks-streams cs))

pub all-counted : (m : List ℕ) → AllCounted m (counts (classes m))
unfolding counts
all-counted m =
    let cs = classes m in
    let long = length-map m class_of in
    record {
      sum = omega (arith, by-class m, breaks-streams (active cs), streams-active m, parts-length cs, long);
      parts = three-parts cs;
      stream_free = λ h. let e = quiet-lead cs h in (e ∙ long, omega (arith, e, parts-length cs));
    }

module _ (a b : List ℕ) (e : active (classes a) ≡ active (classes b)) where
  same-streams : streams (classes a) ≡ streams (classes b)
  same-streams = sym (streams-active a) ∙ ap streams e ∙ streams-active b

  part-share : share (classes a) ≡ share (classes b)
  unfolding share counts
  part-share = rw (same-streams, e)

pub laws : ShareLaws
laws =
    record {
      most = λ m. accepted-most (first_no (in_domain m ∷ has_stream m ∷ [])) (share (classes m)) 10000 (share-most (classes m));
      active_alone = λ a b g h e.
          rw (le-leb (length a) 1048576 g, le-leb (length b) 1048576 h, same-streams a b e, part-share a b e);
    }
