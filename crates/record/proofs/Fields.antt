-- The first of the fields of some bytes, and what follows it. Nothing here speaks of code.
-- Assumes nothing.
use Prim.Native.Nat.{ℕ, zero, suc, ◌+◌, ◌*◌, ◌-◌, ◌≤◌, ◌<◌}
use mathlib.Core.Path.{◌≡◌, refl, ap, ◌∙◌}
use mathlib.Core.Logic.{◌≢◌, inl, inr}
use mathlib.Core.Bool.{Bool, cond}
use mathlib.Core.List.{List, [], ◌∷◌, ◌++◌}
use native.Mathlib.Omega.{arith}
use lib.Dec.{leb}
use lib.ListN.{length, take, drop, get_or, length-drop, take-append-drop}
use lib.Seq.{length-take-le, take_all}
use borrow.Author.Tests.{le-leb, lt-leb}
use Rattle.number.specs.declared.refusal.Refusal.{Refusal}
use Rattle.number.specs.declared.refusal.Refusal.TheVariants.{FieldCutShort, PayloadCut}
use Rattle.number.specs.Refusal.{refusal_number}
use Rattle.number.proofs.Numbered.{numbered}
use Rattle.record.specs.Record.{Fields, end, head_cut, payload_cut, whole, fields_in, fields_of, densities, fields_no}
use Rattle.record.specs.Steps.{IsCut}

-- any bound will do
enough : (k j : ℕ) (bytes : List ℕ) → length bytes ≤ k → length bytes ≤ j → fields_in k bytes ≡ fields_in j bytes
enough zero zero bytes g h = refl
enough zero (suc j) [] g h = refl
enough zero (suc j) (t ∷ bytes) g h = absurd (omega arith)
enough (suc k) zero [] g h = refl
enough (suc k) zero (t ∷ bytes) g h = absurd (omega arith)
enough (suc k) (suc j) [] g h = refl
enough (suc k) (suc j) (t ∷ []) g h = refl
enough (suc k) (suc j) (t ∷ u ∷ []) g h = refl
enough (suc k) (suc j) (t ∷ u ∷ v ∷ bytes) g h =
    let n = 256 * u + v in
    let less = length-drop n bytes in
    rw (enough k j (drop n bytes) (omega (arith, less)) (omega (arith, less)))

-- the first field of some bytes, of which three are there
pub fields-head : (t u v : ℕ) (bytes : List ℕ)
    → fields_of (t ∷ u ∷ v ∷ bytes)
    ≡ cond (leb (256 * u + v) (length bytes)) (whole t (take (256 * u + v) bytes) (fields_of (drop (256 * u + v) bytes))) payload_cut
unfolding fields_of
fields-head t u v bytes =
    let n = 256 * u + v in
    rw (enough (suc (suc (length bytes))) (length (drop n bytes)) (drop n bytes) (omega (arith, length-drop n bytes)) (omega arith))

-- without a byte there is none
pub fields-none : (bytes : List ℕ) → length bytes ≡ 0 → (fields_of bytes ≡ end) × (bytes ≡ [])
unfolding fields_of
fields-none [] h = (refl, refl)
fields-none (b ∷ bytes) h = absurd (omega arith)

-- with fewer than three bytes its head is cut
pub fields-few : (bytes : List ℕ) → 0 < length bytes → length bytes < 3 → fields_of bytes ≡ head_cut
unfolding fields_of
fields-few [] g h = absurd (omega arith)
fields-few (t ∷ []) g h = refl
fields-few (t ∷ u ∷ []) g h = refl
fields-few (t ∷ u ∷ v ∷ bytes) g h = absurd (omega arith)

-- the length that a field's head says
abbrev pub long : List ℕ → ℕ
long bytes = 256 * get_or bytes 1 0 + get_or bytes 2 0

head : (bytes : List ℕ) → 3 ≤ length bytes
    → fields_of bytes
    ≡ cond (leb (long bytes) (length (drop 3 bytes)))
    (whole (get_or bytes 0 0) (take (long bytes) (drop 3 bytes)) (fields_of (drop (long bytes) (drop 3 bytes)))) payload_cut
head [] h = absurd (omega arith)
head (t ∷ []) h = absurd (omega arith)
head (t ∷ u ∷ []) h = absurd (omega arith)
head (t ∷ u ∷ v ∷ bytes) h = fields-head t u v bytes

module _ (bytes : List ℕ) where
  -- what first_field answers with fewer than three bytes
  pub headless : 0 < length bytes → length bytes < 3 → IsCut (fields_of bytes) FieldCutShort
  headless g h = inl (fields-few bytes g h, refl)

  -- the bytes after three, as a slice pattern gives them
  abbrev pub after : List ℕ
  after = take (length bytes - 3) (drop 3 bytes)

  module _ (h : 3 ≤ length bytes) (n : ℕ) (e : n ≡ get_or bytes 1 0 * 256 + get_or bytes 2 0) where
    all : after ≡ drop 3 bytes
    all = take_all (length bytes - 3) (drop 3 bytes) (simp length-drop (omega arith))

    length-is : n ≡ long bytes
    length-is = omega arith

    -- with less than the payload left
    pub short : length after < n → IsCut (fields_of bytes) PayloadCut
    short g = let f = rw all at g in inr (head bytes h ∙ rw (← length-is, lt-leb n (length (drop 3 bytes)) f), refl)

    -- at a whole field
    pub found : n ≤ length after → fields_of bytes ≡ whole (get_or bytes 0 0) (take n after) (fields_of (drop n after))
    found g = let f = rw all at g in rw all (head bytes h ∙ rw (← length-is, le-leb n (length (drop 3 bytes)) f))

    pub places : take n after ++ drop n after ≡ drop 3 bytes
    places = take-append-drop n after ∙ all

    pub sizes : n ≤ length after → 3 + length (take n after) + length (drop n after) ≡ length bytes
    sizes g = omega (arith, length-take-le n after g, length-drop n after, rw all at g, ap length all, length-drop 3 bytes)

-- no density follows a cut field
pub cut-none : {fs : Fields} {e : Refusal} → IsCut fs e → densities fs ≡ []
cut-none c = elim c [ inl a ↦ rw a.0 | inr a ↦ rw a.0 ]

-- a cut field, of whichever kind: it has the number n, and no density follows
pub record CutBy (n : ℕ) (fs : Fields) : Type 0 where
  pub asked : (first : Bool) → fields_no first fs ≡ n
  pub refused : n ≢ 0
  pub none : densities fs ≡ []

-- what IsCut means
pub cut-by : {fs : Fields} {e : Refusal} → IsCut fs e → CutBy (refusal_number e) fs
cut-by {fs} {e} c =
    record {
      asked = λ first. elim c [ inl a ↦ rw (a.0, a.1) | inr a ↦ rw (a.0, a.1) ];
      refused = numbered e;
      none = cut-none c;
    }
