-- `chart_list::stream::read_full` meets its contract: what a read gave stands behind what earlier ones gave.
-- Assumes nothing.
use Rattle.std.proofs.Common.{◌≡◌, ℕ, ◌+◌, ◌≤◌, List, ◌++◌, rules, length, take, sym, ap, ◌∙◌, subst}
use Rattle.std.proofs.lemmas.List.{length-take-le, take-append-le}
use Rattle.std.proofs.Math.Seq.{take-append-add}
use Rattle.std.specs.Io.KnownBytes.{Consumes}
use Rattle.std.proofs.KnownBytes.{Consumes-trans}
use borrow.Rule.Slice.PartMut.{put_mid, post_of}
use Rattle.chart_list.proofs.stream.read_full.Goals as goal

-- after ys is put at the place a, the first n of ys stand behind what stood before a
behind : (a k n : ℕ) (xs ys : List ℕ) → a ≤ length xs → n ≤ length ys → take a xs ++ take n ys ≡ take (a + n) (put_mid a k xs ys)
behind a k n xs ys h i =
    let p = take a xs in
    let q = ys ++ post_of a k xs in
    ap (λ l. p ++ l) (sym (take-append-le n ys (post_of a k xs) i)) ∙ sym (take-append-add p q n) ∙ ap (λ m. take (m + n) (p ++ q)) (length-take-le a xs h)

pub loop-done-preserved : goal.loop-done-preserved
loop-done-preserved g c =
    let n = c.in_ok-count.ensures.bound.0 in
    record {
      within = search rules;
      same_length = search rules;
      taken = subst (Consumes _ _) (behind _ _ _ _ _ c.loop-done.invariant.within n)
          (Consumes-trans _ _ _ _ _ c.loop-done.invariant.taken c.in_ok-count.ensures.bytes.0);
    }
