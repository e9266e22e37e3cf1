-- The records in the lent slice while the segments are written. Nothing here speaks of code.
-- Assumes nothing.
use Rattle.std.proofs.Common.{◌≡◌, ℕ, zero, suc, ◌+◌, ◌≤◌, ◌<◌, Ok, slice_get, drop, List, [], ◌∷◌, ◌++◌, length, set, refl, sym, ap, ◌∙◌, arith, append_assoc, length-append, length-drop, drop-cons, add-one}
use Rattle.std.proofs.lemmas.List.{append-nil, nil_from_length}
use lib.Seq.{set-append_seam, drop-nil}
use borrow.Author.Tests.{leb-true}
use lib.Dec.{leb}
use Rattle.number.specs.Questions.{first_no, filled}
use Rattle.number.proofs.Split.{split}
use Rattle.rules.specs.Chart.{in_domain, classes}
use Rattle.rules.specs.Calls.{segments}
use Rattle.rules.specs.declared.StreamSegment.{StreamSegment}
use Rattle.segments.specs.Promises.{places_for, segments_no, Segmented, first_segment, nth_segment_of}

-- ---- the slice once the records d are written, and one more

pub filled-length : (d old : List StreamSegment) → length d ≤ length old → length (filled old d) ≡ length old
filled-length d old h = simp (length-append, length-drop) (omega arith)

filled_more : (d old : List StreamSegment) (s : StreamSegment) → length d < length old → set (filled old d) (length d) s ≡ filled old (d ++ (s ∷ []))
filled_more d old s h = rw (drop-cons old (length d) s, set-append_seam, append_assoc, length-append, add-one)

-- ---- the questions

places-enough : (ss old : List StreamSegment) → 0 ≡ first_no (places_for ss old ∷ []) → length ss ≤ length old
places-enough ss old p = split (leb (length ss) (length old)) (leb-true _ _) (λ e. absurd (omega (arith, rw e at p)))

none_no : (m : List ℕ) (old : List StreamSegment) → 0 ≡ first_no (in_domain m ∷ []) → 0 ≡ first_no (places_for (segments (classes m)) old ∷ [])
    → segments_no m old ≡ 0
none_no m old d p = split (leb (length m) 1048576) (λ e. rw (e, ← p)) (λ e. absurd (omega (arith, rw e at d)))

-- ---- the loop that writes: i records are written, and the segments ss are left

pub record Writing (m : List ℕ) (old out : List StreamSegment) (i : ℕ) (ss : List StreamSegment) : Type 0 where
  written : List StreamSegment
  whole : written ++ ss ≡ segments (classes m)
  long : length written ≡ i
  holds : out ≡ filled old written

pub writing-starts : (m : List ℕ) (old ss : List StreamSegment) → ss ≡ segments (classes m) → Writing m old old 0 ss
writing-starts m old ss e = record { written = []; whole = e; long = refl; holds = refl }

module _ {m : List ℕ} {old out : List StreamSegment} {i : ℕ} {ss : List StreamSegment} (w : Writing m old out i ss) where
  pub writing-more : (s : StreamSegment) (rest : List StreamSegment) → ss ≡ s ∷ rest → i < length old → Writing m old (set out i s) (i + 1) rest
  writing-more s rest e h =
      record {
        written = w.written ++ s ∷ [];
        whole = rw (append_assoc, ← e) w.whole;
        long = rw length-append (ap (λ n. n + 1) w.long);
        holds = rw (w.holds, ← w.long) (filled_more w.written old s (omega (arith, w.long)));
      }

  -- no question is answered with no, and no segment is left
  pub writing-ends : 0 ≡ first_no (in_domain m ∷ []) → 0 ≡ first_no (places_for (segments (classes m)) old ∷ []) → ss ≡ []
      → Segmented m old out (record { refused = 0; count = i })
  writing-ends d p e =
      let all : w.written ≡ segments (classes m) = sym (append-nil w.written) ∙ rw e at w.whole in
      let no : segments_no m old ≡ 0 = none_no m old d p in
      record { answer = rw (no, ← all, w.long); records = rw (no, ← all) w.holds }

  -- no place is left, so no segment is
  pub all-written : 0 ≡ first_no (places_for (segments (classes m)) old ∷ []) → length old ≤ i → ss ≡ []
  all-written p h =
      nil_from_length ss (omega (arith, places-enough (segments (classes m)) old p, ap length w.whole, length-append w.written ss, w.long))

-- ---- one segment by its number
pub nth-is : (k : ℕ) (ss : List StreamSegment) → nth_segment_of (Ok (slice_get ss k)) ≡ first_segment (drop k ss)
nth-is k [] = rw drop-nil
nth-is zero (s ∷ ss) = refl
nth-is (suc k) (s ∷ ss) = nth-is k ss
