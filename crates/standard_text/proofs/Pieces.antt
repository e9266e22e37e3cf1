-- An open piece and the tokens behind it, as pieces and gaps.
-- Assumes nothing.
use Prim.Native.Nat.{ℕ, zero, suc, ◌+◌, ◌<◌, ◌≤◌}
use mathlib.Core.Path.{◌≡◌, refl, sym, ap, ◌∙◌}
use mathlib.Core.Bool.{Bool, true, false}
use mathlib.Core.Logic.{◌≢◌}
use mathlib.Core.List.{List, [], ◌∷◌}
use native.Mathlib.Nat.{add_assoc, zero-add, suc-ne-zero}
use borrow.Author.Tests.{le-leb, lt-leb}
use Rattle.rules.specs.Chart.{Token, token}
use Rattle.rules.specs.Reduced.{join_from, join}
use Rattle.rules.proofs.Steps.{joins_long, join-not}
use Rattle.text_buffer.specs.MayFollow.{first_class}
use Rattle.standard_text.specs.Standard.{glue, merged}

-- what a pending piece of n measures and the tokens after it are
abbrev pub after : ℕ → ℕ → Bool → List Token → List Token
after k n s ts = join k (glue (token 1 n s) (merged ts))

module _ (k n : ℕ) (s : Bool) (c m : ℕ) (t : Bool) where
  glued : (ps : List Token) → glue (token 1 n s) (glue (token (suc c) m t) ps) ≡ glue (token 1 (n + m) s) ps
  glued [] = refl
  glued (token zero x r ∷ ps) = refl
  glued (token (suc d) x r ∷ ps) = rw (add_assoc n m x)

  module _ (g : ℕ) where
    over : (ps : List Token) → g ≤ k
        → join_from k (token 1 n s) (token 0 g false ∷ glue (token (suc c) m t) ps) ≡ join k (glue (token 1 (n + g + m) true) ps)
    over [] h = rw (le-leb g k h)
    over (token zero x r ∷ ps) h = rw (le-leb g k h)
    over (token (suc d) x r ∷ ps) h = rw (le-leb g k h, add_assoc (n + g) m x)

    apart : (ps : List Token) → k < g
        → join_from k (token 1 n s) (token 0 g false ∷ glue (token (suc c) m t) ps) ≡ token 1 n s ∷ token 0 g false ∷ join k (glue (token (suc c) m t) ps)
    apart [] h = rw (lt-leb g k h)
    apart (token zero x r ∷ ps) h = rw (lt-leb g k h)
    apart (token (suc d) x r ∷ ps) h =
        let u = token 0 g false in
        let v = token 1 (m + x) t in
        join-not k (token 1 n s) u v ps (joins_long k (token 1 n s) u v h) (suc-ne-zero 0)

-- the same by the class of the token that follows
module _ (k n : ℕ) (s : Bool) where
  pub after_run_lem : (c m : ℕ) (ts : List Token) → c ≢ 0 → after k n s (token c m false ∷ ts) ≡ after k (n + m) s ts
  after_run_lem zero m ts h = absurd (h refl)
  after_run_lem (suc c) m ts h = ap (join k) (glued k n s c m false (merged ts))

  -- a gap that joins is added like a run
  pub after-over : (g : ℕ) (ts : List Token) → first_class ts ≢ 0 → g ≤ k → after k n s (token 0 g false ∷ ts) ≡ after k (n + g) true ts
  after-over g [] h l = absurd (h refl)
  after-over g (token zero m t ∷ ts) h l = absurd (h refl)
  after-over g (token (suc c) m t ∷ ts) h l = over k n s c m t g (merged ts) l ∙ sym (ap (join k) (glued k (n + g) true c m t (merged ts)))

  pub after-apart : (g : ℕ) (ts : List Token) → first_class ts ≢ 0 → k < g
      → after k n s (token 0 g false ∷ ts) ≡ token 1 n s ∷ token 0 g false ∷ join k (merged ts)
  after-apart g [] h l = absurd (h refl)
  after-apart g (token zero m t ∷ ts) h l = absurd (h refl)
  after-apart g (token (suc c) m t ∷ ts) h l = apart k n s c m t g (merged ts) l

-- a piece of no measures before a run
pub none_before : (k c m : ℕ) (ts : List Token) → c ≢ 0 → join k (merged (token c m false ∷ ts)) ≡ after k 0 false (token c m false ∷ ts)
none_before k zero m ts h = absurd (h refl)
none_before k (suc c) m ts h = ap (join k) (go (merged ts))
  where
    go : (ps : List Token) → glue (token (suc c) m false) ps ≡ glue (token 1 0 false) (glue (token (suc c) m false) ps)
    go [] = rw zero-add
    go (token zero x r ∷ ps) = rw zero-add
    go (token (suc d) x r ∷ ps) = rw zero-add
