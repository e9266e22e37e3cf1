-- Laws of `accepted`, and what an accepted call that writes one text answers and leaves.
-- Assumes nothing.
use Prim.Native.Nat.{ℕ, zero, suc}
use mathlib.Core.Path.{◌≡◌, refl, sym, ap, ◌∙◌}
use mathlib.Core.List.{List}
use native.Mathlib.Omega.{arith}
use lib.ListN.{length}
use Rattle.number.specs.Questions.{accepted, filled, OneText}
use Rattle.number.specs.declared.Written.{Written}

-- by any number but 0 the refused answer is picked
pub refused-is : {A : Type 0} (k : ℕ) (a b : A) → (k ≡ 0 → ⊥) → accepted k a b ≡ b
refused-is zero a b ne = absurd (ne refl)
refused-is (suc k) a b ne = refl

-- a call that carries 0 gives the accepted answer
pub accepted-is : {A : Type 0} (k : ℕ) (a b : A) → k ≡ 0 → accepted k a b ≡ a
accepted-is zero a b h = refl
accepted-is (suc k) a b h = absurd (omega (arith, h))

pub text-accepted : (q : ℕ) (text old new : List ℕ) (r : Written) → OneText q text old new r → r.refused ≡ 0
    → (q ≡ 0) × (r.length ≡ length text) × (new ≡ filled old text)
text-accepted q text old new r p h =
    let z : q ≡ 0 = sym (ap (λ (w : Written). w.refused) p.answer) ∙ h in
    (z, ap (λ (w : Written). w.length) p.answer ∙ accepted-is q _ _ z, p.bytes ∙ accepted-is q _ _ z)
