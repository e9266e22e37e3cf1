-- The name of an accepted record: where it stands, and how long it is.
-- Assumes nothing.
use Prim.Native.Nat.{ℕ, zero, suc, ◌+◌, ◌*◌, ◌≤◌}
use mathlib.Core.Path.{◌≡◌, refl, sym}
use mathlib.Core.Bool.{true, false, true≢false}
use mathlib.Core.List.{List, [], ◌∷◌}
use native.Mathlib.Omega.{arith}
use lib.Dec.{leb, eqb}
use lib.ListN.{length, take, drop}
use lib.Seq.{length-take-le}
use borrow.Author.Tests.{leb-true}
use Rattle.number.specs.Questions.{accepted}
use Rattle.number.proofs.Split.{split}
use Rattle.record.specs.Record.{Fields, end, head_cut, payload_cut, whole, fields_of, is_name, field_no, fields_no, densities, name_of, record_no}
use Rattle.rules.specs.Chart.{densities_no}
use Rattle.record.proofs.Fields.{fields-none, fields-few, fields-head}
use Rattle.record.proofs.Sizes.{Sized, sized}

-- the name is what stands behind the first three bytes
pub name-at : (bytes : List ℕ) → take (length (name_of (fields_of bytes))) (drop 3 bytes) ≡ name_of (fields_of bytes)
name-at [] = rw (fields-none [] refl).0
name-at (t ∷ []) = rw (fields-few (t ∷ []) (omega arith) (omega arith))
name-at (t ∷ u ∷ []) = rw (fields-few (t ∷ u ∷ []) (omega arith) (omega arith))
name-at (t ∷ u ∷ v ∷ bytes) =
    let n = 256 * u + v in
    split (leb n (length bytes))
    (λ e.
    split (eqb t 1)
    (λ one. rw (fields-head t u v bytes, e, one, length-take-le n bytes (leb-true n (length bytes) e)))
    (λ other. rw (fields-head t u v bytes, e, other)))
    (λ e. rw (fields-head t u v bytes, e))

first-yes : (a k : ℕ) → accepted k a k ≡ 0 → k ≡ 0
first-yes a zero h = refl
first-yes a (suc k) h = absurd (omega (arith, h))

short-name : (p : List ℕ) → is_name p ≡ true → length p ≤ 64
short-name p h =
    split (leb (length p) 64)
    (λ e. leb-true (length p) 64 e)
    (λ e. split (leb 1 (length p)) (λ f. absurd (true≢false (sym (rw (f, e) at h)))) (λ f. absurd (true≢false (sym (rw f at h)))))

short-field : (t : ℕ) (p : List ℕ) → field_no true t p ≡ 0 → eqb t 1 ≡ true → length p ≤ 64
unfolding field_no
short-field t p h one = split (is_name p) (λ e. short-name p e) (λ e. absurd (omega (arith, rw (one, e) at h)))

-- an accepted record's name of n bytes, in a record of m bytes
pub record Named (m n : ℕ) : Type 0 where
  pub within : 3 + n ≤ m
  pub short : n ≤ 64

named_in : (fs : Fields) (m : ℕ) → Sized fs m → fields_no true fs ≡ 0 → Named m (length (name_of fs))
named_in end m g h = absurd (omega (arith, h))
named_in head_cut m g h = absurd (omega (arith, h))
named_in payload_cut m g h = absurd (omega (arith, h))
named_in (whole t p fs) m g h =
    let yes = first-yes (fields_no false fs) (field_no true t p) h in
    split (eqb t 1)
    (λ e. rw e (record { within = g.0; short = short-field t p yes e }))
    (λ e. rw e (record { within = omega (arith, g.0); short = omega arith }))

pub named : (bytes old : List ℕ) → record_no bytes old ≡ 0 → Named (length bytes) (length (name_of (fields_of bytes)))
unfolding record_no
named bytes old h =
    let fs = fields_of bytes in
    named_in fs (length bytes) (sized bytes) (first-yes (densities_no (densities fs) old) (fields_no true fs) h)
