-- What a token shows costs at most so many bytes a measure, and no reduced list shows more measures than the chart has.
-- Assumes nothing.
use Prim.Native.Nat.{ℕ, zero, suc, ◌+◌, ◌*◌, ◌/◌, ◌≤◌}
use mathlib.Core.Path.{◌≡◌, refl, sym, ◌∙◌}
use mathlib.Core.Bool.{Bool, true, false, ◌&&◌}
use mathlib.Core.List.{List, [], ◌∷◌, ◌++◌, map}
use native.Mathlib.Nat.{mul-add}
use native.Mathlib.Omega.{arith}
use lib.Dec.{ltb, leb, eqb}
use lib.ListN.{length, length-append}
use borrow.Author.Tests.{ltb-false, leb-false, eqb-false}
use Rattle.number.specs.Digits.{digits_in, digits}
use Rattle.rules.specs.Bytes.{bytes}
use Rattle.rules.specs.Chart.{active, Token, token, class, len, runs_from, runs}
use Rattle.rules.specs.Slices.{total}
use Rattle.rules.specs.Reduced.{Item, run, gap, item, sign_of, joins, join_from, join, short, absorb, drop_ones}
use Rattle.rules.specs.Texts.{mark, word, part, strung}
use Rattle.number.proofs.Split.{split}
use Rattle.rules.proofs.Ends.{parts-length}
use Rattle.number.proofs.Each.{Each, none, ◌&◌}

-- ---- a number has at most as many digits as it counts, and fewer from 2 on

digits_in_lem : (k n : ℕ) → 1 ≤ n → length (digits_in k n) ≤ n
digits_in_lem zero n h = h
digits_in_lem (suc k) n h =
    split (ltb n 10) (λ e. rw e h)
    (λ e. let g = ltb-false n 10 e in rw (e, length-append) (omega (arith, digits_in_lem k (n / 10) (omega arith))))

less-in : (k n : ℕ) → 2 ≤ n → length (digits_in k n) + 1 ≤ n
less-in zero n h = h
less-in (suc k) n h =
    split (ltb n 10) (λ e. rw e h)
    (λ e. let g = ltb-false n 10 e in rw (e, length-append) (omega (arith, digits_in_lem k (n / 10) (omega arith))))

module _ (n : ℕ) where
  pub digits-most : 1 ≤ n → length (digits n) ≤ n
  unfolding digits
  digits-most h = digits_in_lem n n h

  digits-less : 2 ≤ n → length (digits n) + 1 ≤ n
  unfolding digits
  digits-less h = less-in n n h

-- ---- tokens have a length, and starred ones 2 or more

abbrev pub Sound : Token → Type 0
Sound (token c n true) = 2 ≤ n
Sound (token c n false) = 1 ≤ n

sound-len : (t : Token) → Sound t → 1 ≤ len t
sound-len (token c n true) h = omega arith
sound-len (token c n false) h = h

from-sound : (c n : ℕ) (cs : List ℕ) → 1 ≤ n → Each Sound (runs_from c n cs)
from-sound c n [] h = h & none
from-sound c n (d ∷ cs) h = split (eqb c d) (λ e. rw e (from-sound c (suc n) cs (omega arith))) (λ e. rw e (h & from-sound d 1 cs (omega arith)))

pub runs-sound : (cs : List ℕ) → Each Sound (runs cs)
runs-sound [] = none
runs-sound (c ∷ cs) = from-sound c 1 cs (omega arith)

join_from-sound : (k : ℕ) (t : Token) (us : List Token) → Sound t → Each Sound us → Each Sound (join_from k t us)
join_from-sound k t [] h hs = h & none
join_from-sound k t (u ∷ []) h hs = h & hs
join_from-sound k t (u ∷ v ∷ us) h (g & (f & fs)) =
    split (joins k t u v)
    (λ e. rw e (join_from-sound k (token (class t) (len t + len u + len v) true) us (omega (arith, sound-len t h, sound-len u g)) fs))
    (λ e. rw e (h & join_from-sound k u (v ∷ us) g (f & fs)))

pub join-sound : (k : ℕ) (ts : List Token) → Each Sound ts → Each Sound (join k ts)
join-sound k [] hs = none
join-sound k (t ∷ ts) (h & hs) = join_from-sound k t ts h hs

pub absorb-sound : (k : ℕ) (ts : List Token) → Each Sound ts → Each Sound (absorb k ts)
absorb-sound k [] hs = none
absorb-sound k (t ∷ []) hs = hs
absorb-sound k (t ∷ u ∷ ts) (h & (g & gs)) =
    split (short k u)
    (λ e. let s : 2 ≤ len t + len u = omega (arith, sound-len t h, sound-len u g) in rw e (s & absorb-sound k ts gs))
    (λ e. rw e (h & absorb-sound k (u ∷ ts) (g & gs)))

pub drop-sound : (ts : List Token) → Each Sound ts → Each Sound (drop_ones ts)
drop-sound [] hs = none
drop-sound (t ∷ ts) (h & hs) = split (eqb (class t) 0 && eqb (len t) 1) (λ e. rw e (drop-sound ts hs)) (λ e. rw e (h & drop-sound ts hs))

-- ---- and no more measures than before

total-from : (c n : ℕ) (cs : List ℕ) → total (runs_from c n cs) ≡ n + length cs
total-from c n [] = refl
total-from c n (d ∷ cs) = split (eqb c d) (λ e. rw (e, total-from c (suc n) cs) (omega arith)) (λ e. rw (e, total-from d 1 cs) (omega arith))

pub total_runs : (cs : List ℕ) → total (runs cs) ≡ length cs
total_runs [] = refl
total_runs (c ∷ cs) = total-from c 1 cs ∙ omega arith

pub active-short : (cs : List ℕ) → length (active cs) ≤ length cs
active-short cs = omega (arith, parts-length cs)

total-cons : (t : Token) (ts : List Token) → total (t ∷ ts) ≡ len t + total ts
total-cons (token c n s) ts = refl

join_from-total : (k : ℕ) (t : Token) (us : List Token) → total (join_from k t us) ≡ total (t ∷ us)
join_from-total k t [] = refl
join_from-total k t (u ∷ []) = refl
join_from-total k t (u ∷ v ∷ us) =
    split (joins k t u v)
    (λ e. rw (e, join_from-total k (token (class t) (len t + len u + len v) true) us)
    (omega (arith, total-cons t (u ∷ v ∷ us), total-cons u (v ∷ us), total-cons v us)))
    (λ e. rw (e, total-cons t (join_from k u (v ∷ us)), join_from-total k u (v ∷ us)) (sym (total-cons t (u ∷ v ∷ us))))

pub join-total : (k : ℕ) (ts : List Token) → total (join k ts) ≡ total ts
join-total k [] = refl
join-total k (t ∷ ts) = join_from-total k t ts

pub absorb-total : (k : ℕ) (ts : List Token) → total (absorb k ts) ≡ total ts
absorb-total k [] = refl
absorb-total k (t ∷ []) = refl
absorb-total k (t ∷ u ∷ ts) =
    split (short k u)
    (λ e. rw e (omega (arith, absorb-total k ts, total-cons t (u ∷ ts), total-cons u ts)))
    (λ e. rw (e, total-cons t (absorb k (u ∷ ts)), absorb-total k (u ∷ ts)) (sym (total-cons t (u ∷ ts))))

pub drop-total : (ts : List Token) → total (drop_ones ts) ≤ total ts
drop-total [] = omega arith
drop-total (t ∷ ts) =
    split (eqb (class t) 0 && eqb (len t) 1)
    (λ e. rw e (omega (arith, drop-total ts, total-cons t ts)))
    (λ e. rw e (omega (arith, drop-total ts, total-cons t ts, total-cons t (drop_ones ts))))

-- ---- so a text is at most K bytes a measure, where each token is

module _ (K : ℕ) (f : Item → List ℕ) (g : ℕ → Item) (cost : (t : Token) → Sound t → length (f (item g t)) ≤ K * len t) where
  pub strung-most : (ts : List Token) → Each Sound ts → length (strung f (map (item g) ts)) ≤ K * total ts
  strung-most [] none = omega arith
  strung-most (t ∷ ts) (h & hs) = rw (length-append, total-cons, mul-add) (omega (arith, cost t h, strung-most ts hs))

mark-one : (c : ℕ) → length (mark c) ≤ 1
mark-one zero = omega arith
mark-one (suc zero) = omega arith
mark-one (suc (suc zero)) = omega arith
mark-one (suc (suc (suc zero))) = omega arith
mark-one (suc (suc (suc (suc c)))) = omega arith

abbrev pub spaced : Item → List ℕ
spaced j = bytes " " ++ word j

pub gap-four : (n : ℕ) → 1 ≤ n → length (spaced (gap n)) ≤ 4 * n
gap-four n h = simp length-append (omega (arith, digits-most n h))

run-four : (c n : ℕ) (s : Bool) → Sound (token c n s) → length (spaced (run c n s)) ≤ 4 * n
run-four c n true h = simp length-append (omega (arith, digits-less n h, mark-one c))
run-four c n false h = simp length-append (omega (arith, digits-most n h, mark-one c))

sign-four : (most n : ℕ) → 1 ≤ n → length (spaced (sign_of most n)) ≤ 4 * n
sign-four most n h = split (leb n 4) (λ e. rw e (omega arith)) (λ e. rw e (split (leb n most) (λ q. rw q (omega arith)) (λ q. rw q (omega arith))))

pub sn-gaps : (t : Token) → Sound t → length (spaced (item gap t)) ≤ 4 * len t
sn-gaps (token zero n s) h = gap-four n (sound-len (token zero n s) h)
sn-gaps (token (suc c) n s) h = run-four (suc c) n s h

pub sn-signs : (most : ℕ) (t : Token) → Sound t → length (spaced (item (sign_of most) t)) ≤ 4 * len t
sn-signs most (token zero n s) h = sign-four most n (sound-len (token zero n s) h)
sn-signs most (token (suc c) n s) h = run-four (suc c) n s h

piece-one : (c n : ℕ) (s : Bool) → Sound (token c n s) → length (part (run c n s)) ≤ n
piece-one c n true h = simp length-append (omega (arith, digits-less n h))
piece-one c n false h = simp length-append (omega (arith, digits-most n h))

gap-three : (n : ℕ) → 1 ≤ n → length (part (gap n)) ≤ 3 * n
gap-three n h =
    split (eqb n 1)
    (λ e. rw e (omega arith))
    (λ e. let g = eqb-false n 1 e in rw e (simp length-append (omega (arith, digits-less n (omega arith)))))

-- a bar stands for 5 or more
sign-one : (most n : ℕ) → 1 ≤ n → length (part (sign_of most n)) ≤ 1 * n
sign-one most n h =
    split (leb n 4)
    (λ e. rw e (omega arith))
    (λ e. let g = leb-false n 4 e in rw e (split (leb n most) (λ q. rw q (omega arith)) (λ q. rw q (omega arith))))

pub standard-gaps : (t : Token) → Sound t → length (part (item gap t)) ≤ 3 * len t
standard-gaps (token zero n s) h = gap-three n (sound-len (token zero n s) h)
standard-gaps (token (suc c) n s) h = omega (arith, piece-one (suc c) n s h)

pub standard-signs : (most : ℕ) (t : Token) → Sound t → length (part (item (sign_of most) t)) ≤ 1 * len t
standard-signs most (token zero n s) h = sign-one most n (sound-len (token zero n s) h)
standard-signs most (token (suc c) n s) h = omega (arith, piece-one (suc c) n s h)

pub total-append : (ts us : List Token) → total (ts ++ us) ≡ total ts + total us
total-append [] us = omega arith
total-append (token c n s ∷ ts) us = omega (arith, total-append ts us)
