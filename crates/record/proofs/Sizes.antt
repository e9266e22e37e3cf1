-- How many bytes the fields of a record take.
-- Assumes nothing.
use Prim.Native.Nat.{ℕ, zero, suc, ◌+◌, ◌*◌, ◌-◌, ◌≤◌}
use mathlib.Core.Path.{◌≡◌, refl}
use mathlib.Core.Bool.{cond}
use mathlib.Core.List.{List, [], ◌∷◌}
use native.Mathlib.Nat.{sub-zero}
use native.Mathlib.Omega.{arith}
use lib.Dec.{leb, eqb}
use lib.ListN.{length, drop, length-append, length-drop}
use lib.Seq.{length-take-le}
use borrow.Author.Tests.{le-leb, leb-true}
use Rattle.number.proofs.Split.{split}
use Rattle.record.specs.Record.{Fields, end, head_cut, payload_cut, whole, fields_in, fields_of, densities}
use Rattle.record.specs.Alike.{lengths, ending}

-- m bytes that hold no whole field
abbrev remainder : ℕ → Fields
remainder m = cond (leb 1 m) (cond (leb 3 m) payload_cut head_cut) end

-- the fields fs are those of m bytes
abbrev pub Sized : Fields → ℕ → Type 0
Sized end m = end ≡ remainder m
Sized head_cut m = head_cut ≡ remainder m
Sized payload_cut m = payload_cut ≡ remainder m
Sized (whole t p fs) m = (3 + length p ≤ m) × Sized fs (m - (3 + length p))

sized-in : (k : ℕ) (bytes : List ℕ) → length bytes ≤ k → Sized (fields_in k bytes) (length bytes)
sized-in zero [] h = refl
sized-in zero (t ∷ bytes) h = absurd (omega arith)
sized-in (suc k) [] h = refl
sized-in (suc k) (t ∷ []) h = refl
sized-in (suc k) (t ∷ u ∷ []) h = refl
sized-in (suc k) (t ∷ u ∷ v ∷ bytes) h =
    let n = 256 * u + v in
    split (leb n (length bytes))
    (λ e.
    let long = length-take-le n bytes (leb-true n (length bytes) e) in
    let left : suc (suc (suc (length bytes))) - (3 + n) ≡ length (drop n bytes) = omega (arith, length-drop n bytes) in
    rw (e, long, left) (omega (arith, leb-true n (length bytes) e), sized-in k (drop n bytes) (omega (arith, length-drop n bytes))))
    (λ e.
    let m = suc (suc (suc (length bytes))) in
    rw (e, le-leb 1 m (omega arith), le-leb 3 m (omega arith)) refl)

pub sized : (bytes : List ℕ) → Sized (fields_of bytes) (length bytes)
unfolding fields_of
sized bytes = sized-in (length bytes) bytes (omega arith)

-- the bytes that whole fields with payloads of these lengths take
abbrev taken : List ℕ → ℕ
taken [] = 0
taken (n ∷ ns) = 3 + n + taken ns

ends-in : (fs : Fields) (m : ℕ) → Sized fs m → ending fs ≡ remainder (m - taken (lengths fs))
ends-in end m h = rw (sub-zero m) h
ends-in head_cut m h = rw (sub-zero m) h
ends-in payload_cut m h = rw (sub-zero m) h
ends-in (whole t p fs) m h =
    let left : m - (3 + length p) - taken (lengths fs) ≡ m - (3 + length p + taken (lengths fs)) = omega arith in
    rw (ends-in fs (m - (3 + length p)) h.1, left)

-- which cut a record ends in, if any, is seen by its length and those of its whole fields alone
pub same-ending : (a b : List ℕ) → length a ≡ length b → lengths (fields_of a) ≡ lengths (fields_of b) → ending (fields_of a) ≡ ending (fields_of b)
same-ending a b l ls = rw (ends-in (fields_of a) (length a) (sized a), ends-in (fields_of b) (length b) (sized b), l, ls)

-- a record has more bytes than densities
few : (fs : Fields) (m : ℕ) → Sized fs m → length (densities fs) ≤ m
few end m h = omega arith
few head_cut m h = omega arith
few payload_cut m h = omega arith
few (whole t p fs) m h =
    let rest = few fs (m - (3 + length p)) h.1 in
    split (eqb t 2)
    (λ e. rw (e, length-append p (densities fs)) (omega (arith, rest, h.0)))
    (λ e. rw e (omega (arith, rest, h.0)))

pub few-densities : (bytes : List ℕ) → length (densities (fields_of bytes)) ≤ length bytes
few-densities bytes = few (fields_of bytes) (length bytes) (sized bytes)
