-- For alike: stream measures at the same places, and from there to the standard detailed texts.
-- Assumes nothing.
use Prim.Native.Nat.{ℕ, ◌+◌, ◌≤◌, ◌<◌}
use mathlib.Core.Path.{◌≡◌, refl, sym, ap, ◌∙◌}
use mathlib.Core.Bool.{Bool, true, false, beq, false≢true}
use mathlib.Core.Logic.{◌↔◌, inl, inr}
use mathlib.Core.List.{List}
use native.Mathlib.Omega.{arith}
use lib.Dec.{ltb}
use lib.ListN.{length, get_or, length-map}
use borrow.Author.Count.{below_more}
use borrow.Author.Tests.{ltb-true, ltb-false}
use Rattle.std.proofs.lemmas.Bool.Decides.{same_from_decides}
use Rattle.number.proofs.Split.{split}
use Rattle.rules.specs.Bytes.{same_bytes}
use Rattle.rules.specs.Chart.{class_of, classes, active, active_part}
use Rattle.rules.specs.declared.Kind.TheVariants.{Standard as standard}
use Rattle.rules.specs.Texts.{text}
use Rattle.rules.specs.Demand.{Stream, SamePlaces, SameStreams}
use Rattle.rules.specs.declared.StreamBreakdownLevel.TheVariants as Level
use Rattle.rules.proofs.Bytes.{same-exactly}
use Rattle.rules.proofs.Steps.{class-0, active-part}
use Rattle.rules.proofs.Places.{no-active}
use Rattle.rules.proofs.Demand.{exactly, same_length, same_text}
use Rattle.alike.specs.Promises.{alike_answer}
use Rattle.measures.proofs.Part.{stream-class, class-of-place}

-- ---- stream measures at the same places

-- are both stream measures, or neither?
abbrev pub together : ℕ × ℕ → Bool
together p = beq (ltb p.0 16) (ltb p.1 16)

tells : (d e : ℕ) → (together (d, e) ≡ true) ↔ (Stream (class_of d) ↔ Stream (class_of e))
tells d e =
    split (ltb d 16)
    (λ x. let z = class-0 d (ltb-true d 16 x) in
    split (ltb e 16)
    (λ y. rw (x, y, z, class-0 e (ltb-true e 16 y)) (λ t. (λ s. s, λ s. s), λ h. refl))
    (λ y. rw (x, y, z, (stream-class e (ltb-false e 16 y)).1) (λ t. absurd (false≢true t), λ h. absurd (omega (arith, h.1 (omega arith))))))
    (λ x. let s = stream-class d (ltb-false d 16 x) in
    split (ltb e 16)
    (λ y. rw (x, y, s.1, class-0 e (ltb-true e 16 y)) (λ t. absurd (false≢true t), λ h. absurd (omega (arith, h.0 (omega arith)))))
    (λ y. rw (x, y, s.1, (stream-class e (ltb-false e 16 y)).1) (λ t. (λ h. omega arith, λ h. omega arith), λ h. refl)))

-- so far all pairs are together
module _ (a b : List ℕ) where
  pub record Agree (i : ℕ) : Type 0 where
    pub long : length a ≡ length b
    pub within : i ≤ length a
    pub each : (k : ℕ) → k < i → together (get_or a k 0, get_or b k 0) ≡ true

  pub agree-none : length a ≡ length b → Agree 0
  agree-none h = record { long = h; within = omega arith; each = λ k l. absurd (omega arith) }

  module _ (i : ℕ) (g : Agree i) where
    pub agree-more : i < length a → together (get_or a i 0, get_or b i 0) ≡ true → Agree (i + 1)
    agree-more h t = record { long = g.long; within = omega arith; each = below_more _ _ g.each t }

    pub agree-all : length a ≤ i → SamePlaces (classes a) (classes b)
    agree-all h =
        record {
          long = length-map a class_of ∙ g.long ∙ sym (length-map b class_of);
          places = λ k l. rw (class-of-place a k, class-of-place b k) ((tells _ _).0 (g.each k (omega (arith, rw length-map at l))));
        }

  pub unlike-length : (length a ≡ length b → ⊥) → SamePlaces (classes a) (classes b) → false ≡ true
  unlike-length h s = absurd (h (sym (length-map a class_of) ∙ s.long ∙ length-map b class_of))

  pub unlike-place : (i : ℕ) → i < length a → together (get_or a i 0, get_or b i 0) ≡ false → SamePlaces (classes a) (classes b) → false ≡ true
  unlike-place i h t s = sym t ∙ (tells _ _).1 (rw (class-of-place a i, class-of-place b i) at (s.places i (rw length-map h)))

-- ---- the texts

in-active : (x y : List ℕ) → SameStreams x y → SamePlaces (active x) (active y)
in-active x y (inr s) = s
in-active x y (inl n) = rw (no-active x n.0, no-active y n.1) (record { long = refl; places = λ i h. absurd (omega arith) })

-- stream measures at the same places of the active parts: the standard detailed texts are the same
pub alike : (a b x y : List ℕ) (r : Bool) → x ≡ active_part a → y ≡ active_part b → (r ≡ true) ↔ SamePlaces (classes x) (classes y)
    → r ≡ same_bytes (text (standard Level.Detailed) a) (text (standard Level.Detailed) b)
alike a b x y r ex ey h =
    let tell = (exactly a b).detailed in
    let ea : classes x ≡ active (classes a) = ap classes ex ∙ active-part a in
    let eb : classes y ≡ active (classes b) = ap classes ey ∙ active-part b in
    same_from_decides r _
    (λ t. tell.1 (inr (rw (ea, eb) at (h.0 t))), λ e. h.1 (rw (ea, eb) (in-active _ _ (tell.0 e))))
    (same-exactly (text (standard Level.Detailed) a) (text (standard Level.Detailed) b))

-- ---- charts of equal classes

module _ (a b : List ℕ) (e : classes a ≡ classes b) where
  pub same_alike : (c d : List ℕ) → classes c ≡ classes d → alike_answer a c ≡ alike_answer b d
  same_alike c d f =
      rw (same_length a b e, same_length c d f, same_text (standard Level.Detailed) a b e, same_text (standard Level.Detailed) c d f)
