-- Tests on neighbours; and the tokens of a chart beside those that its SN detailed text shows, in which the gaps of 1 are missing.
-- Assumes nothing.
use Prim.Native.Nat.{ℕ, zero, suc, ◌+◌, ◌≤◌}
use mathlib.Core.Path.{◌≡◌, refl, sym, ◌∙◌}
use mathlib.Core.Bool.{Bool, true, false, cond, ◌&&◌, ◌||◌, and-false, false≢true}
use mathlib.Core.Logic.{◌≢◌, ◌⊎◌, inl, inr}
use mathlib.Core.List.{List, [], ◌∷◌}
use native.Mathlib.Omega.{arith}
use lib.Dec.{leb, eqb}
use borrow.Author.Tests.{eqb-true, eqb-false, eq-eqb, ne_eqb, le-leb}
use Rattle.number.proofs.Split.{split}
use Rattle.rules.specs.Chart.{classes, to_last, active, Token, token, class, runs_from, tokens}
use Rattle.rules.specs.Slices.{total}
use Rattle.rules.proofs.Shape.{Differ, tokens-differ}
use Rattle.rules.proofs.Steps.{Closed, tokens-closed}
use Rattle.sn_to_standard.specs.Converted.{both_runs, one_class, two_classes, gaps_where, with_gaps, undecided}
use Rattle.sn_to_standard.specs.Laws.{Run, Ordered, last, next, over}

-- ---- tests on neighbours

module _ (c n d k : ℕ) where
  both_runs_lem : 1 ≤ c → 1 ≤ d → both_runs (token c n false) (token d k false) ≡ true
  both_runs_lem g h = rw (le-leb 1 d h, le-leb 1 c g)

  pub one-class-yes : 1 ≤ c → 1 ≤ d → c ≡ d → one_class (token c n false) (token d k false) ≡ true
  one-class-yes g h e = rw (both_runs_lem g h, eq-eqb c d e)

  pub one-class-no : c ≢ d → one_class (token c n false) (token d k false) ≡ false
  one-class-no e = rw (ne_eqb c d e, and-false)

  pub two-classes-yes : 1 ≤ c → 1 ≤ d → c ≢ d → two_classes (token c n false) (token d k false) ≡ true
  two-classes-yes g h e = rw (both_runs_lem g h, ne_eqb c d e)

  pub two-classes-no : 1 ≤ c → 1 ≤ d → two_classes (token c n false) (token d k false) ≡ false → c ≡ d
  two-classes-no g h e = split (eqb c d) (eqb-true c d) (λ q. absurd (false≢true (sym e ∙ two-classes-yes g h (eqb-false c d q))))

pub both_false : (a b : Bool) → a || b ≡ false → (a ≡ false) × (b ≡ false)
both_false true b e = absurd (false≢true (sym e))
both_false false b e = (refl, e)

-- a run first
pub data Headed : List Token → Type 0 where
  headed : (c n : ℕ) (ts : List Token) → Run c n → Headed (token c n false ∷ ts)

pub order-head : {ts : List Token} → Ordered ts → Headed ts
order-head (last r) = headed _ _ _ r
order-head (next r o) = headed _ _ _ r
order-head (over r k o) = headed _ _ _ r

-- ---- a chart's tokens, and those shown

-- behind a run of class c
pub data Behind : ℕ → List Token → List Token → Type 0 where
  end : {c : ℕ} → Behind c [] []
  beside : {c : ℕ} (d k : ℕ) {ts us : List Token} → Run d k → c ≢ d → Behind d ts us → Behind c (token d k false ∷ ts) (token d k false ∷ us)
  gap : {c : ℕ} (d k : ℕ) {ts us : List Token} → Run d k → Behind d ts us → Behind c (token 0 1 false ∷ token d k false ∷ ts) (token d k false ∷ us)
  break : {c : ℕ} (j d k : ℕ) {ts us : List Token} → 2 ≤ j → Run d k → Behind d ts us
      → Behind c (token 0 j false ∷ token d k false ∷ ts) (token 0 j false ∷ token d k false ∷ us)

pub data Shows : List Token → List Token → Type 0 where
  nothing : Shows [] []
  first : (c n : ℕ) {ts us : List Token} → Run c n → Behind c ts us → Shows (token c n false ∷ ts) (token c n false ∷ us)

-- behind the first token
shows-behind : {t u : Token} {ts us : List Token} → Shows (t ∷ ts) (u ∷ us) → Behind (class t) ts us
shows-behind (first c n r b) = b

-- ---- of a chart

-- what a list is cut into, behind a measure of class p
data Cut : ℕ → List Token → Type 0 where
  none : {p : ℕ} → Cut p []
  some : {p : ℕ} (c n : ℕ) {ts : List Token} → c ≢ p → Cut c ts → Cut p (token c (suc n) false ∷ ts)

runs-cut : (p c n : ℕ) (cs : List ℕ) → c ≢ p → Cut p (runs_from c (suc n) cs)
runs-cut p c n [] h = some c n h none
runs-cut p c n (d ∷ cs) h =
    split (eqb c d) (λ e. rw e (runs-cut p c (suc n) cs h)) (λ e. rw e (some c n h (runs-cut c d 0 cs (omega (arith, eqb-false c d e)))))

tokens-cut : (cs : List ℕ) → Cut 0 (tokens cs)
unfolding tokens active
tokens-cut [] = none
tokens-cut (zero ∷ cs) = tokens-cut cs
tokens-cut (suc c ∷ cs) = runs-cut 0 (suc c) 0 (to_last cs) (omega arith)

cut-behind : (c n : ℕ) {ts : List Token} → Cut c ts → Differ 4 c ts → Closed (token c n false) ts → (us : List Token) × Behind c ts us
cut-behind c n none d z = (_, end)
cut-behind c n (some zero k h none) d z = absurd (z refl)
cut-behind c n (some zero zero h (some e j g t)) d z = (_, gap e (suc j) (omega arith) (cut-behind e (suc j) t d.2.2 z).1)
cut-behind c n (some zero (suc k) h (some e j g t)) d z =
    (_, break (suc (suc k)) e (suc j) (omega arith) (omega arith) (cut-behind e (suc j) t d.2.2 z).1)
cut-behind c n (some (suc e) k h t) d z = (_, beside (suc e) (suc k) (omega arith) (λ x. h (sym x)) (cut-behind (suc e) (suc k) t d.2 z).1)

cut-shows : {ts : List Token} → Cut 0 ts → Differ 4 5 ts → Closed (token 1 1 false) ts → (us : List Token) × Shows ts us
cut-shows none d z = (_, nothing)
cut-shows (some c n h t) d z = (_, first c (suc n) (omega arith) (cut-behind c (suc n) t d.2 z).1)

pub chart-shows : (m : List ℕ) → (us : List Token) × Shows (tokens (classes m)) us
chart-shows m = cut-shows (tokens-cut (classes m)) (tokens-differ m) (tokens-closed (token 1 1 false) (classes m) (omega arith))

-- ---- of a text: a gap of 1 between neighbouring runs of one class, or, if b, between all

module _ (b : Bool) where
  abbrev pub gapped : List Token → List Token
  gapped ts = gaps_where (λ t u. both_runs t u && (b || eqb (class t) (class u))) ts

  gapped-behind : (k : ℕ) (ts : List Token) → gapped (token 0 k false ∷ ts) ≡ token 0 k false ∷ gapped ts
  gapped-behind k [] = refl
  gapped-behind k (u ∷ ts) = rw (and-false (leb 1 (class u)))

  gapped-over : (c n k : ℕ) (ts : List Token) → gapped (token c n false ∷ token 0 k false ∷ ts) ≡ token c n false ∷ token 0 k false ∷ gapped ts
  gapped-over c n k ts = rw (gapped-behind k ts)

  gapped-next : (c n : ℕ) {us : List Token} → Run c n → Headed us → Shows (gapped us) us → Shows (gapped (token c n false ∷ us)) (token c n false ∷ us)
  gapped-next c n r (headed d k us q) s =
      let t = shows-behind s in
      rw (both_runs_lem c n d k (omega arith) (omega arith))
      (split (b || eqb c d) (λ e. rw e (first c n r (gap d k q t))) (λ e. rw e (first c n r (beside d k q (eqb-false c d (both_false b (eqb c d) e).1) t))))

  gapped-break : (c n k : ℕ) {ts us : List Token} → Run c n → 2 ≤ k → Headed us → Shows ts us
      → Shows (token c n false ∷ token 0 k false ∷ ts) (token c n false ∷ token 0 k false ∷ us)
  gapped-break c n k r h o nothing = elim o [ ]
  gapped-break c n k r h o (first d j q t) = first c n r (break k d j h q t)

  gapped-order : {us : List Token} → Ordered us → Shows (gapped us) us
  gapped-order (last r) = first _ _ r end
  gapped-order (next r o) = gapped-next _ _ r (order-head o) (gapped-order o)
  gapped-order (over {c = c} {n = n} {k = k} {ts = ts} r h o) = rw (gapped-over c n k ts) (gapped-break c n k r h (order-head o) (gapped-order o))

  pub gapped-shows : {us : List Token} → (us ≡ []) ⊎ Ordered us → Shows (gapped us) us
  gapped-shows (inl e) = rw e nothing
  gapped-shows (inr o) = gapped-order o

pub gaps-over : (c n k : ℕ) (ts : List Token) → with_gaps (token c n false ∷ token 0 k false ∷ ts) ≡ token c n false ∷ token 0 k false ∷ with_gaps ts
gaps-over = gapped-over false

-- an undecided gap of 1 adds a measure
pub gapped-more : (ts : List Token) → cond (undecided ts) 1 0 + total (with_gaps ts) ≤ total (gapped true ts)
gapped-more [] = omega arith
gapped-more (token c n s ∷ []) = omega arith
gapped-more (token c n s ∷ token d k z ∷ ts) =
    let more = gapped-more (token d k z ∷ ts) in
    split (leb 1 d && leb 1 c) (λ e. rw e (split (eqb c d) (λ q. rw q (omega arith)) (λ q. rw q (omega arith)))) (λ e. rw e (omega arith))
