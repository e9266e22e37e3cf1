-- A chart of given tokens, measure by measure.
-- Assumes nothing.
use Prim.Native.Nat.{ℕ, zero, suc, ◌+◌, ◌*◌, ◌≤◌, min}
use mathlib.Core.Path.{◌≡◌, refl, ap, ◌∙◌}
use mathlib.Core.Bool.{false}
use mathlib.Core.Logic.{◌≢◌}
use mathlib.Core.List.{List, [], ◌∷◌, ◌++◌, map}
use native.Mathlib.Nat.{zero-add, add-suc, suc-add}
use native.Mathlib.Numerals.{add-one}
use native.Mathlib.Omega.{arith}
use lib.ListN.{length, replicate, length-append, length-replicate, length-map, get_or-map}
use borrow.Author.Tests.{eq-eqb, ne_eqb}
use Rattle.rules.specs.Chart.{class_of, classes, keep, to_last, active, Token, token, runs_from, runs, tokens}
use Rattle.rules.specs.Slices.{total}
use Rattle.sn_to_standard.specs.Laws.{Chart}
use Rattle.sn_to_standard.proofs.Charts.{Behind, end, beside, gap, break, Shows, nothing, first}

-- a density of each class: 0, 16, 22, 28, 34
abbrev pub density : ℕ → ℕ
density c = min (16 * c) (min (10 + 6 * c) 34)

-- the class of each measure
abbrev pub spread : List Token → List ℕ
spread [] = []
spread (token c n s ∷ ts) = replicate n c ++ spread ts

abbrev pub chart_of : List Token → List ℕ
chart_of ts = map density (spread ts)

pub chart_of_lem : (ts : List Token) → Chart (chart_of ts)
chart_of_lem ts i h = rw (get_or-map density (spread ts) i 0) (omega arith)

pub chart-long : (ts : List Token) → length (chart_of ts) ≡ total ts
chart-long [] = refl
chart-long (token c n s ∷ ts) = rw (length-map, length-append, length-replicate) (omega (arith, chart-long ts, length-map (spread ts) density))

class-density : (c : ℕ) → c ≤ 4 → class_of (density c) ≡ c
unfolding class_of
class-density zero h = refl
class-density (suc zero) h = refl
class-density (suc (suc zero)) h = refl
class-density (suc (suc (suc zero))) h = refl
class-density (suc (suc (suc (suc zero)))) h = refl
class-density (suc (suc (suc (suc (suc c))))) h = absurd (omega arith)

-- measures behind one of class p: n more of it, and those of the tokens ts, a stream measure last
data Part : ℕ → ℕ → List ℕ → List Token → Type 0 where
  none : (p : ℕ) → 1 ≤ p → Part p 0 [] []
  same : (c n : ℕ) {xs : List ℕ} {ts : List Token} → c ≤ 4 → Part c n xs ts → Part c (suc n) (c ∷ xs) ts
  other : (p c n : ℕ) {xs : List ℕ} {ts : List Token} → c ≤ 4 → p ≢ c → Part c n xs ts → Part p 0 (c ∷ xs) (token c (suc n) false ∷ ts)

keep-more : (p x : ℕ) (xs : List ℕ) → keep p (x ∷ xs) ≡ p ∷ x ∷ xs
keep-more zero x xs = refl
keep-more (suc p) x xs = refl

part-last : {p n : ℕ} {xs : List ℕ} {ts : List Token} → Part p n xs ts → to_last (p ∷ classes (map density xs)) ≡ p ∷ classes (map density xs)
part-last (none zero h) = absurd (omega arith)
part-last (none (suc p) h) = refl
part-last (same c n {xs = xs} h t) = rw (class-density c h) (ap (keep c) (part-last t) ∙ keep-more c c (classes (map density xs)))
part-last (other p c n {xs = xs} h e t) = rw (class-density c h) (ap (keep p) (part-last t) ∙ keep-more p c (classes (map density xs)))

part_cut : {p n : ℕ} {xs : List ℕ} {ts : List Token} (j : ℕ) → Part p n xs ts → runs_from p j (classes (map density xs)) ≡ token p (n + j) false ∷ ts
part_cut j (none p h) = rw zero-add
part_cut j (same c n h t) = rw (class-density c h, eq-eqb c c refl, part_cut (suc j) t, add-suc, suc-add)
part_cut j (other p c n h e t) = rw (class-density c h, ne_eqb p c e, part_cut 1 t, add-one, zero-add)

part-run : (c n : ℕ) {xs : List ℕ} {ts : List Token} → c ≤ 4 → Part c 0 xs ts → Part c n (replicate n c ++ xs) ts
part-run c zero h t = t
part-run c (suc n) h t = same c n h (part-run c n h t)

token-part : (p c n : ℕ) {xs : List ℕ} {ts : List Token} → (c ≤ 4) × (1 ≤ n) × (p ≢ c) → Part c 0 xs ts → Part p 0 (replicate n c ++ xs) (token c n false ∷ ts)
token-part p c zero h t = absurd (omega arith)
token-part p c (suc n) h t = other p c n h.0 h.2 (part-run c n h.0 t)

behind-part : (c : ℕ) {ts us : List Token} → 1 ≤ c → Behind c ts us → Part c 0 (spread ts) ts
behind-part c h end = none c h
behind-part c h (beside d k r e b) = token-part c d k (omega arith) (behind-part d (omega arith) b)
behind-part c h (gap d k r b) = token-part c 0 1 (omega arith) (token-part 0 d k (omega arith) (behind-part d (omega arith) b))
behind-part c h (break j d k g r b) = token-part c 0 j (omega arith) (token-part 0 d k (omega arith) (behind-part d (omega arith) b))

pub chart-tokens : {ts us : List Token} → Shows ts us → tokens (classes (chart_of ts)) ≡ ts
unfolding tokens active
chart-tokens nothing = refl
chart-tokens (first zero n r b) = absurd (omega arith)
chart-tokens (first (suc c) zero r b) = absurd (omega arith)
chart-tokens (first (suc c) (suc n) r b) =
    let t = part-run (suc c) n r.class-most (behind-part (suc c) (omega arith) b) in
    rw (class-density (suc c) r.class-most) (ap runs (part-last t) ∙ rw (part_cut 1 t, add-one))
