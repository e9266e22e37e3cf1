-- For loops: what one more measure, or one more token, does to the rules' lists. A loop over tokens keeps one pending token t; its invariant says
-- that what is written, with `join_from k t` (or `absorb` of it) of the tokens not yet read, is the whole list.
-- Assumes nothing.
use Prim.Native.Nat.{ℕ, zero, suc, ◌+◌, ◌≤◌, ◌<◌}
use mathlib.Core.Path.{◌≡◌, refl, sym, ap}
use mathlib.Core.Bool.{Bool, true, false, ◌&&◌}
use mathlib.Core.Logic.{◌≢◌}
use mathlib.Core.List.{List, [], ◌∷◌, ◌++◌, map, append_assoc}
use lib.Dec.{eqb}
use lib.ListN.{length, take, drop}
use native.Mathlib.Nat.{suc-ne-zero}
use native.Mathlib.Omega.{arith}
use borrow.Author.Tests.{eq-eqb, ne_eqb, eqb-true, lt-ltb, le-ltb, le-leb, lt-leb}
use Rattle.rules.specs.Chart.{class_of, classes, lead_in, keep, to_last, active, active_part, Token, token, class, len, runs_from, tokens}
use Rattle.rules.specs.Reduced.{Item, joins, join_from, short, absorb, drop_ones}
use Rattle.rules.specs.Texts.{strung}
use Rattle.number.proofs.Split.{split}

-- ---- one measure's class

module _ (d : ℕ) where
  pub class-0 : d < 16 → class_of d ≡ 0
  unfolding class_of
  class-0 h = rw (lt-ltb d 16 h)

  pub class-1 : 16 ≤ d → d < 20 → class_of d ≡ 1
  unfolding class_of
  class-1 g h = rw (le-ltb d 16 g, lt-ltb d 20 h)

  pub class-2 : 20 ≤ d → d < 24 → class_of d ≡ 2
  unfolding class_of
  class-2 g h = rw (le-ltb d 16 (omega arith), le-ltb d 20 g, lt-ltb d 24 h)

  pub class-3 : 24 ≤ d → d < 32 → class_of d ≡ 3
  unfolding class_of
  class-3 g h = rw (le-ltb d 16 (omega arith), le-ltb d 20 (omega arith), le-ltb d 24 g, lt-ltb d 32 h)

  pub class-4 : 32 ≤ d → class_of d ≡ 4
  unfolding class_of
  class-4 g = rw (le-ltb d 16 (omega arith), le-ltb d 20 (omega arith), le-ltb d 24 (omega arith), le-ltb d 32 g)

-- ---- a loop over measures, with a pending run of n measures of class c

pub run-longer : (c n d : ℕ) (cs : List ℕ) → c ≡ d → runs_from c n (d ∷ cs) ≡ runs_from c (suc n) cs
run-longer c n d cs e = rw (eq-eqb c d e)

pub run-ended : (c n d : ℕ) (cs : List ℕ) → c ≢ d → runs_from c n (d ∷ cs) ≡ token c n false ∷ runs_from d 1 cs
run-ended c n d cs h = rw (ne_eqb c d h)

-- ---- the rules' tests, by facts

and-false : (a : Bool) → a && false ≡ false
and-false true = refl
and-false false = refl

module _ (k : ℕ) (t u v : Token) where
  pub joins-yes : class u ≡ 0 → len u ≤ k → class t ≡ class v → joins k t u v ≡ true
  joins-yes e h s = rw (eq-eqb (class u) 0 e, le-leb (len u) k h, eq-eqb (class t) (class v) s)

  pub joins-class : class t ≢ class v → joins k t u v ≡ false
  joins-class h = rw (ne_eqb (class t) (class v) h, and-false)

  pub joins_long : k < len u → joins k t u v ≡ false
  joins_long h = rw (lt-leb (len u) k h, and-false)

module _ (k : ℕ) (u : Token) where
  pub short-yes : class u ≡ 0 → 2 ≤ len u → len u ≤ k → short k u ≡ true
  short-yes e g h = rw (eq-eqb (class u) 0 e, le-leb 2 (len u) g, le-leb (len u) k h)

  pub short-one : len u < 2 → short k u ≡ false
  short-one h = rw (lt-leb 2 (len u) h, and-false)

  pub short-long : k < len u → short k u ≡ false
  short-long h = rw (lt-leb (len u) k h, and-false)

-- ---- a loop over tokens, with a pending token t

module _ (k : ℕ) (t u : Token) where
  -- a run follows
  pub join-run : (ts : List Token) → class u ≢ 0 → join_from k t (u ∷ ts) ≡ t ∷ join_from k u ts
  join-run [] h = refl
  join-run (v ∷ ts) h = rw (ne_eqb (class u) 0 h)

module _ (k : ℕ) (t u v : Token) (ts : List Token) where
  -- a break and a run follow, and join
  pub join-on : joins k t u v ≡ true → join_from k t (u ∷ v ∷ ts) ≡ join_from k (token (class t) (len t + len u + len v) true) ts
  join-on e = rw e

  -- a break and a run follow, and do not join
  pub join-not : joins k t u v ≡ false → class v ≢ 0 → join_from k t (u ∷ v ∷ ts) ≡ t ∷ u ∷ join_from k v ts
  join-not e h = rw (e, join-run k u v ts h)

-- a token before joined ones that begin with a run takes nothing in
absorb-past : (k : ℕ) (u v : Token) (ts : List Token) → class v ≢ 0 → absorb k (u ∷ join_from k v ts) ≡ u ∷ absorb k (join_from k v ts)
absorb-past k u v [] h = rw (ne_eqb (class v) 0 h)
absorb-past k u v (w ∷ []) h = rw (ne_eqb (class v) 0 h)
absorb-past k u v (w ∷ x ∷ ts) h =
    split (joins k v w x)
    (λ e. rw e (absorb-past k u (token (class v) (len v + len w + len x) true) ts h))
    (λ e. rw (e, ne_eqb (class v) 0 h))

module _ (k : ℕ) (t u : Token) where
  pub simple-run : (ts : List Token) → class u ≢ 0 → absorb k (join_from k t (u ∷ ts)) ≡ t ∷ absorb k (join_from k u ts)
  simple-run ts h = rw (join-run k t u ts h) (absorb-past k t u ts h)

module _ (k : ℕ) (t u v : Token) (ts : List Token) (e : joins k t u v ≡ false) (h : class v ≢ 0) where
  -- a break of 2 to 4 before a different class is added to the pending run
  pub simple-soak : short k u ≡ true → absorb k (join_from k t (u ∷ v ∷ ts)) ≡ token (class t) (len t + len u) true ∷ absorb k (join_from k v ts)
  simple-soak s = rw (join-not k t u v ts e h, s)

  -- any other stays
  pub simple-not : short k u ≡ false → absorb k (join_from k t (u ∷ v ∷ ts)) ≡ t ∷ u ∷ absorb k (join_from k v ts)
  simple-not s = rw (join-not k t u v ts e h, s, absorb-past k u v ts h)

-- breaks of 1 go, runs and other breaks stay
module _ (t : Token) (ts : List Token) where
  pub drop-run : class t ≢ 0 → drop_ones (t ∷ ts) ≡ t ∷ drop_ones ts
  drop-run h = rw (ne_eqb (class t) 0 h)

  pub drop-one : class t ≡ 0 → len t ≡ 1 → drop_ones (t ∷ ts) ≡ drop_ones ts
  drop-one h k = rw (eq-eqb (class t) 0 h, eq-eqb (len t) 1 k)

  pub drop-not : class t ≡ 0 → len t ≢ 1 → drop_ones (t ∷ ts) ≡ t ∷ drop_ones ts
  drop-not h k = rw (eq-eqb (class t) 0 h, ne_eqb (len t) 1 k)

-- ---- the last token is a run, so a token follows each break

-- the last of c and cs is a stream measure; the last of t and ts is a run
abbrev EndsIn : ℕ → List ℕ → Type 0
EndsIn c [] = c ≢ 0
EndsIn c (d ∷ cs) = EndsIn d cs

abbrev pub Closed : Token → List Token → Type 0
Closed t [] = class t ≢ 0
Closed t (u ∷ ts) = Closed u ts

runs_closed : (t : Token) (c n : ℕ) (cs : List ℕ) → EndsIn c cs → Closed t (runs_from c n cs)
runs_closed t c n [] h = h
runs_closed t c n (d ∷ cs) h =
    split (eqb c d)
    (λ e. rw e (runs_closed t c (suc n) cs (rw (eqb-true c d e) h)))
    (λ e. rw e (runs_closed (token c n false) d 1 cs h))

keep-ends : (c d : ℕ) (cs : List ℕ) → ((e : ℕ) → EndsIn (suc e) cs) → EndsIn (suc c) (keep d cs)
keep-ends c zero [] h = h c
keep-ends c zero (x ∷ cs) h = h c
keep-ends c (suc d) cs h = h d

last-ends : (c : ℕ) (cs : List ℕ) → EndsIn (suc c) (to_last cs)
last-ends c [] = suc-ne-zero c
last-ends c (d ∷ cs) = keep-ends c d (to_last cs) (λ e. last-ends e cs)

-- t stands for any token before the first
pub tokens-closed : (t : Token) (cs : List ℕ) → class t ≢ 0 → Closed t (tokens cs)
unfolding tokens active
tokens-closed t [] h = h
tokens-closed t (zero ∷ cs) h = tokens-closed t cs h
tokens-closed t (suc c ∷ cs) h = runs_closed t (suc c) 1 (to_last cs) (last-ends c cs)

-- ---- a loop that writes items

pub strung-append : (f : Item → List ℕ) (is js : List Item) → strung f (is ++ js) ≡ strung f is ++ strung f js
strung-append f [] js = refl
strung-append f (i ∷ is) js = rw (strung-append f is js) (sym (append_assoc (f i) (strung f is) (strung f js)))

-- ---- the active part of the caller's own slice has the active part's classes

pub map-take : (f : ℕ → ℕ) (n : ℕ) (l : List ℕ) → map f (take n l) ≡ take n (map f l)
map-take f zero l = refl
map-take f (suc n) [] = refl
map-take f (suc n) (x ∷ l) = ap {B = List ℕ} (λ r. f x ∷ r) (map-take f n l)

pub map-drop : (f : ℕ → ℕ) (n : ℕ) (l : List ℕ) → map f (drop n l) ≡ drop n (map f l)
map-drop f zero l = refl
map-drop f (suc n) [] = refl
map-drop f (suc n) (x ∷ l) = map-drop f n l

take-keep : (c : ℕ) (ds cs : List ℕ) → take (length ds) cs ≡ ds → take (length (keep c ds)) (c ∷ cs) ≡ keep c ds
take-keep zero [] cs e = refl
take-keep zero (d ∷ ds) cs e = ap {B = List ℕ} (λ r. zero ∷ r) e
take-keep (suc c) ds cs e = ap {B = List ℕ} (λ r. suc c ∷ r) e

take_last : (cs : List ℕ) → take (length (to_last cs)) cs ≡ to_last cs
take_last [] = refl
take_last (c ∷ cs) = take-keep c (to_last cs) cs (take_last cs)

take-active : (cs : List ℕ) → take (length (active cs)) (drop (lead_in cs) cs) ≡ active cs
unfolding active
take-active [] = refl
take-active (zero ∷ cs) = take-active cs
take-active (suc c ∷ cs) = take_last (suc c ∷ cs)

pub active-part : (m : List ℕ) → classes (active_part m) ≡ active (classes m)
unfolding active_part
active-part m = rw (map-take, map-drop) (take-active (classes m))
