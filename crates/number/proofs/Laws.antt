-- The laws of numbers at a least width hold.
-- Assumes nothing.
use Prim.Native.Nat.{ℕ, ◌-◌, ◌≤◌, ◌<◌, max}
use mathlib.Core.Path.{◌≡◌, ap, ◌∙◌}
use mathlib.Core.List.{List}
use native.Mathlib.Nat.{max-eq_left, max-eq_right}
use native.Mathlib.Omega.{arith}
use lib.Dec.{ltb, leb}
use lib.ListN.{length, replicate, take, drop, get_or, length-replicate, get_or-replicate, get_or-append}
use lib.Seq.{drop_at, take-append_seam}
use borrow.Author.Tests.{ltb-true, ltb-false, leb-true}
use Rattle.number.specs.Digits.{digits, padded}
use Rattle.number.specs.Pushed.{Pushed}
use Rattle.number.specs.Laws.{PaddedLaws}
use Rattle.number.specs.declared.Written.{Written}
use Rattle.number.proofs.Split.{split}
use Rattle.number.proofs.Questions.{text-accepted}
use Rattle.number.proofs.Padded.{padded-length, padded-narrow, padded-injective}

module _ (width n : ℕ) where
  abbrev spaces : ℕ
  spaces = width - length (digits n)

  spaces-first : length (padded width n) - length (digits n) ≡ spaces
  spaces-first = omega (arith, padded-length width n)

  digits_last : drop spaces (padded width n) ≡ digits n
  unfolding padded
  digits_last = drop_at (replicate spaces 32) (digits n) spaces (length-replicate {A = ℕ} spaces 32)

  space-before : (i : ℕ) → i < spaces → get_or (padded width n) i 0 ≡ 32
  unfolding padded
  space-before i h =
      get_or-append (replicate spaces 32) (digits n) 0 i (rw length-replicate h) ∙ get_or-replicate {A = ℕ} spaces i 32 0 h

  least : length (padded width n) ≡ max width (length (digits n))
  least =
      split (ltb width (length (digits n)))
      (λ e. let h = ltb-true width _ e in omega (arith, padded-length width n, max-eq_right {n = width} {m = length (digits n)} (omega arith)))
      (λ e. let h = ltb-false width _ e in omega (arith, padded-length width n, max-eq_left {n = width} {m = length (digits n)} (omega arith)))

pushed-bytes : (n width : ℕ) (old new : List ℕ) (r : Written) → Pushed n width old new r → r.refused ≡ 0
    → (width ≤ 20) × (take r.length new ≡ padded width n)
pushed-bytes n width old new r p h =
    let text = padded width n in
    let w = text-accepted _ text old new r p h in (
      split (leb width 20) (λ e. leb-true width 20 e) (λ e. absurd (omega (arith, rw e at w.0))),
      rw (w.1, w.2) (take-append_seam text (drop (length text) old)),
    )

pub padded-laws : PaddedLaws
padded-laws =
    record {
      last = λ width n. rw (spaces-first width n) (digits_last width n);
      before = λ width n i h. space-before width n i (omega (arith, spaces-first width n));
      long = least;
      narrow = padded-narrow;
      exactly = λ width m n. (padded-injective width m n, ap (padded width));
      pushed = pushed-bytes;
    }
