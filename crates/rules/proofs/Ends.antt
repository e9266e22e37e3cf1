-- Lead and tail: a chart is so many breaks, its active part, and so many breaks.
-- Assumes nothing.
use Prim.Native.Nat.{ℕ, zero, suc, ◌+◌, suc-le-suc}
use mathlib.Core.Path.{◌≡◌, refl, ap, ◌∙◌}
use mathlib.Core.List.{List, [], ◌∷◌, ◌++◌}
use native.Mathlib.Nat.{suc-ne-zero}
use native.Mathlib.Omega.{arith}
use lib.ListN.{length, drop, replicate, length-append, length-replicate}
use Rattle.rules.specs.Chart.{lead_in, from_first, keep, to_last, active, tail}
use Rattle.rules.specs.Demand.{NoStream}

lead-breaks : (cs : List ℕ) → cs ≡ replicate (lead_in cs) 0 ++ from_first cs
lead-breaks [] = refl
lead-breaks (zero ∷ cs) = ap {B = List ℕ} (λ l. 0 ∷ l) (lead-breaks cs)
lead-breaks (suc c ∷ cs) = refl

-- so many measures of cs stand behind the first of them, which are ts
abbrev behind : List ℕ → List ℕ → ℕ
behind ts cs = length (drop (length ts) cs)

one-before : (c : ℕ) (ts cs : List ℕ) → cs ≡ ts ++ replicate (behind ts cs) 0 → c ∷ cs ≡ keep c ts ++ replicate (behind (keep c ts) (c ∷ cs)) 0
one-before zero [] cs h = ap {B = List ℕ} (λ l. 0 ∷ l) h
one-before zero (t ∷ ts) cs h = ap {B = List ℕ} (λ l. 0 ∷ l) h
one-before (suc c) ts cs h = ap {B = List ℕ} (λ l. suc c ∷ l) h

tail-breaks : (cs : List ℕ) → cs ≡ to_last cs ++ replicate (behind (to_last cs) cs) 0
tail-breaks [] = refl
tail-breaks (c ∷ cs) = one-before c (to_last cs) cs (tail-breaks cs)

pub three-parts : (cs : List ℕ) → cs ≡ replicate (lead_in cs) 0 ++ (active cs ++ replicate (tail cs) 0)
unfolding active
three-parts cs = lead-breaks cs ∙ ap (λ (l : List ℕ). replicate (lead_in cs) 0 ++ l) (tail-breaks (from_first cs))

pub parts-length : (cs : List ℕ) → length cs ≡ lead_in cs + (length (active cs) + tail cs)
parts-length cs = ap {B = ℕ} length (three-parts cs) ∙ simp (length-append, length-replicate) refl

pub quiet-lead : (cs : List ℕ) → NoStream cs → lead_in cs ≡ length cs
quiet-lead [] h = refl
quiet-lead (zero ∷ cs) h = ap suc (quiet-lead cs (λ i k. h (suc i) (suc-le-suc k)))
quiet-lead (suc c ∷ cs) h = absurd (suc-ne-zero c (h 0 (omega arith)))
