-- An open run and the tokens behind it: what they show.
-- Assumes nothing.
use Prim.Native.Nat.{ℕ, zero, suc, ◌+◌, ◌<◌, ◌≤◌}
use mathlib.Core.Path.{◌≡◌, refl, sym, ap, ◌∙◌}
use mathlib.Core.Bool.{Bool, true, false, ◌&&◌}
use mathlib.Core.Logic.{◌≢◌, ◌⊎◌, ⊎_elim}
use mathlib.Core.List.{List, [], ◌∷◌, ◌++◌}
use native.Mathlib.Omega.{arith}
use lib.Dec.{eqb}
use Rattle.number.proofs.Split.{split}
use Rattle.rules.specs.Chart.{Token, token, class, len}
use Rattle.rules.specs.Reduced.{joins, join_from, short, absorb, drop_ones}
use Rattle.rules.proofs.Steps.{joins-yes, joins-class, joins_long, short-yes, short-one, short-long, join-on}
use Rattle.rules.proofs.Steps.{simple-run, simple-soak, simple-not, drop-run, drop-one, drop-not}
use Rattle.text_buffer.specs.MayFollow.{first_class}
use Rattle.sn_text.specs.Sn.{shown, break_tokens}

pub drop-append : (ts us : List Token) → drop_ones (ts ++ us) ≡ drop_ones ts ++ drop_ones us
drop-append [] us = refl
drop-append (t ∷ ts) us =
    split (eqb (class t) 0 && eqb (len t) 1)
    (λ e. rw e (drop-append ts us))
    (λ e. rw e (ap {B = List Token} (λ l. t ∷ l) (drop-append ts us)))

module _ (k : ℕ) (t : Token) (rt : class t ≢ 0) where
  -- a run follows
  pub after_run_lem : (ts : List Token) → first_class ts ≢ 0 → shown k (t ∷ ts) ≡ t ∷ shown k ts
  after_run_lem [] h = absurd (h refl)
  after_run_lem (u ∷ ts) h = rw (simple-run k t u ts h, drop-run t (absorb k (join_from k u ts)) rt)

  module _ (u : Token) where
    -- a break follows, and a run that joins over it
    pub after-join : (v : Token) (ts : List Token) → class u ≡ 0 → len u ≤ k → class v ≡ class t
        → shown k (t ∷ u ∷ v ∷ ts) ≡ shown k (token (class t) (len t + len u + len v) true ∷ ts)
    after-join v ts b l e = ap (λ l. drop_ones (absorb k l)) (join-on k t u v ts (joins-yes k t u v b l (sym e)))

    -- a break follows, and no run joins over it
    pub after-apart : (ts : List Token) → first_class ts ≢ 0 → (k < len u) ⊎ (first_class ts ≢ class t)
        → shown k (t ∷ u ∷ ts) ≡ drop_ones (absorb k (t ∷ u ∷ [])) ++ shown k ts
    after-apart [] h a = absurd (h refl)
    after-apart (v ∷ ts) h a = ap drop_ones whole ∙ drop-append (absorb k (t ∷ u ∷ [])) (absorb k (join_from k v ts))
      where
        no : joins k t u v ≡ false
        no = ⊎_elim (joins_long k t u v) (λ d. joins-class k t u v (λ e. d (sym e))) a

        whole : absorb k (join_from k t (u ∷ v ∷ ts)) ≡ absorb k (t ∷ u ∷ []) ++ absorb k (join_from k v ts)
        whole =
            split (short k u)
            (λ e. rw (simple-soak k t u v ts no h e, e))
            (λ e. rw (simple-not k t u v ts no h e, e))

-- ---- a run and a break over which it does not join

pub break-tokens : (n : ℕ) → 1 ≤ n → break_tokens n ≡ token 0 n false ∷ []
break-tokens zero h = absurd (omega arith)
break-tokens (suc n) h = refl

module _ (k c n : ℕ) (s : Bool) (g : ℕ) (r : c ≢ 0) where
  abbrev reduced : List Token
  reduced = drop_ones (absorb k (token c n s ∷ token 0 g false ∷ []))

  pub one-shows : g ≡ 1 → reduced ≡ token c n s ∷ []
  one-shows h = rw (short-one k (token 0 g false) (omega arith), drop-run (token c n s) (token 0 g false ∷ []) r, drop-one (token 0 g false) [] refl h)

  module _ (more : 2 ≤ g) where
    pub short-shows : g ≤ k → reduced ≡ token c (n + g) true ∷ []
    short-shows l = rw (short-yes k (token 0 g false) refl more l, drop-run (token c (n + g) true) [] r)

    pub long-shows : k < g → reduced ≡ token c n s ∷ break_tokens g
    long-shows l =
        rw (
          short-long k (token 0 g false) l,
          drop-run (token c n s) (token 0 g false ∷ []) r,
          drop-not (token 0 g false) [] refl (λ e. omega arith),
          break-tokens g (omega arith),
        )
