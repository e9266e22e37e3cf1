-- The loop of `tally`, as lists: each sum, with what the measures not yet read add, is that of all; and what the sums have to do with the runs.
-- Assumes nothing.
use Prim.Native.Nat.{ℕ, zero, suc, ◌+◌, ◌-◌, ◌<◌, ◌≤◌}
use mathlib.Core.Path.{◌≡◌, refl}
use mathlib.Core.Bool.{Bool, ◌&&◌}
use mathlib.Core.List.{List, [], ◌∷◌}
use native.Mathlib.Numerals.{add-one}
use native.Mathlib.Omega.{arith}
use lib.Dec.{eqb, ltb, leb}
use Rattle.std.specs.Int.{from_bool}
use lib.ListN.{length, drop, get_or, drop_of_length-le}
use lib.Seq.{drop-cons}
use borrow.Author.Tests.{leb-true, leb-false, lt-ltb, le-ltb, le-leb, lt-leb, eqb-true, ne_eqb}
use Rattle.rules.specs.Chart.{class_of, classes, keep, to_last, active, active_part, runs_from, runs, count, wide_gaps}
use Rattle.number.proofs.Split.{split}
use Rattle.rules.proofs.Steps.{class-0, class-1, class-2, class-3, class-4, active-part}
use Rattle.counts.specs.Sums.{held, Ends, sums_of, Closed}
use Rattle.measures.proofs.Part.{stream-class, part-within}
use Rattle.counts.proofs.TokenSums.{held-runs}

-- ---- the active part ends in a stream measure

keep-ends : (c d : ℕ) (cs : List ℕ) → ((e : ℕ) → Ends (suc e) cs) → Ends (suc c) (keep d cs)
keep-ends c zero [] h = tt
keep-ends c zero (x ∷ cs) h = h c
keep-ends c (suc d) cs h = h d

last-ends : (c : ℕ) (cs : List ℕ) → Ends (suc c) (to_last cs)
last-ends c [] = tt
last-ends c (d ∷ cs) = keep-ends c d (to_last cs) (λ e. last-ends e cs)

active-ends : (cs : List ℕ) → Ends 1 (active cs)
unfolding active
active-ends [] = tt
active-ends (zero ∷ cs) = active-ends cs
active-ends (suc c ∷ cs) = last-ends c cs

pub closed : (m part : List ℕ) → length m ≤ 1048576 → part ≡ active_part m → Closed part
closed m part h e = rw e (record { few = omega (arith, part-within m); ends = rw active-part (active-ends (classes m)) })

-- ---- how many have each class

-- how many densities are t or more
abbrev reach : ℕ → List ℕ → ℕ
reach t [] = 0
reach t (d ∷ m) = from_bool (leb t d) + reach t m

abbrev Reaches : List ℕ → Type 0
Reaches m =
    (count 0 (classes m) + reach 16 m ≡ length m) × (count 1 (classes m) + reach 20 m ≡ reach 16 m) × (count 2 (classes m) + reach 24 m ≡ reach 20 m)
    × (count 3 (classes m) + reach 32 m ≡ reach 24 m) × (count 4 (classes m) ≡ reach 32 m)

reaches : (m : List ℕ) → Reaches m
reaches [] = (refl, refl, refl, refl, refl)
reaches (d ∷ m) =
    let r = reaches m in
    split (leb 16 d)
    (λ e. split (leb 20 d)
    (λ f. split (leb 24 d)
    (λ k. split (leb 32 d)
    (λ l. rw (class-4 d (leb-true 32 d l), e, f, k, l) (omega arith, omega arith, omega arith, omega arith, omega arith))
    (λ l. rw (class-3 d (leb-true 24 d k) (leb-false 32 d l), e, f, k, l) (omega arith, omega arith, omega arith, omega arith, omega arith)))
    (λ k. let h = leb-false 24 d k in
    rw (class-2 d (leb-true 20 d f) h, e, f, k, lt-leb 32 d (omega arith)) (omega arith, omega arith, omega arith, omega arith, omega arith)))
    (λ f. let h = leb-false 20 d f in
    rw (class-1 d (leb-true 16 d e) h, e, f, lt-leb 24 d (omega arith), lt-leb 32 d (omega arith)) (omega arith, omega arith, omega arith, omega arith, omega arith)))
    (λ e. let h = leb-false 16 d e in
    rw (class-0 d h, e, lt-leb 20 d (omega arith), lt-leb 24 d (omega arith), lt-leb 32 d (omega arith))
    (omega arith, omega arith, omega arith, omega arith, omega arith))

-- ---- breaks that stand alone

-- is x a stream measure after a break p that stands alone, after a stream measure q?
abbrev alone : ℕ → ℕ → ℕ → Bool
alone q p x = (leb 16 x && ltb p 16) && leb 16 q

-- how many there are, q and p standing before the first measure
abbrev singles : ℕ → ℕ → List ℕ → ℕ
singles q p [] = 0
singles q p (x ∷ m) = from_bool (alone q p x) + singles p x m

data Pending : ℕ → ℕ → ℕ → ℕ → Type 0 where
  run : {c n q p : ℕ} → 16 ≤ p → Pending (suc c) n q p
  first : {q p : ℕ} → 16 ≤ q → p < 16 → Pending 0 1 q p
  later : {n q p : ℕ} → 2 ≤ n → q < 16 → p < 16 → Pending 0 n q p

abbrev gap : ℕ → ℕ → ℕ
gap zero n = n
gap (suc c) n = 0

lone : (m : List ℕ) {c n q p : ℕ} → Pending c n q p → Ends c (classes m) → wide_gaps (runs_from c n (classes m)) + singles q p m ≡ gap c n + count 0 (classes m)
lone [] (run h) e = refl
lone [] (first g h) e = absurd e
lone [] (later f g h) e = absurd e
lone (x ∷ m) (run {c = c} {n = n} {q = q} {p = p} h) e =
    split (leb 16 x)
    (λ b. let k : (d : ℕ) × (class_of x ≡ suc d) = stream-class x (leb-true 16 x b) in
    let i = rw k.1 at e in
    rw (k.1, b, le-ltb p 16 h, ne_eqb 0 (suc k.0) (omega arith))
    (split (eqb (suc c) (suc k.0))
    (λ s. rw s (omega (arith, lone m (run {c = c} {n = suc n} {q = p} {p = x} (leb-true 16 x b)) (rw (eqb-true (suc c) (suc k.0) s) i))))
    (λ s. rw s (omega (arith, lone m (run {c = k.0} {n = 1} {q = p} {p = x} (leb-true 16 x b)) i)))))
    (λ b. let k = class-0 x (leb-false 16 x b) in
    rw (k, b, ne_eqb (suc c) 0 (omega arith)) (omega (arith, lone m (first h (leb-false 16 x b)) (rw k at e))))
lone (x ∷ m) (first {q = q} {p = p} g h) e =
    split (leb 16 x)
    (λ b. let k : (d : ℕ) × (class_of x ≡ suc d) = stream-class x (leb-true 16 x b) in
    rw (k.1, b, lt-ltb p 16 h, le-leb 16 q g, ne_eqb 0 (suc k.0) (omega arith))
    (omega (arith, lone m (run {c = k.0} {n = 1} {q = p} {p = x} (leb-true 16 x b)) (rw k.1 at e))))
    (λ b. let k = class-0 x (leb-false 16 x b) in
    rw (k, b) (omega (arith, lone m (later {n = 2} {q = p} {p = x} (omega arith) h (leb-false 16 x b)) (rw k at e))))
lone (x ∷ m) (later {n = n} {q = q} {p = p} f g h) e =
    split (leb 16 x)
    (λ b. let k : (d : ℕ) × (class_of x ≡ suc d) = stream-class x (leb-true 16 x b) in
    rw (k.1, b, lt-ltb p 16 h, lt-leb 16 q g, ne_eqb 0 (suc k.0) (omega arith), le-ltb n 2 f)
    (omega (arith, lone m (run {c = k.0} {n = 1} {q = p} {p = x} (leb-true 16 x b)) (rw k.1 at e))))
    (λ b. let k = class-0 x (leb-false 16 x b) in
    rw (k, b) (omega (arith, lone m (later {n = suc n} {q = p} {p = x} (omega arith) h (leb-false 16 x b)) (rw k at e))))

lones : (m : List ℕ) → Ends 1 (classes m) → wide_gaps (runs (classes m)) + singles 16 16 m ≡ count 0 (classes m)
lones [] e = refl
lones (x ∷ m) e =
    split (leb 16 x)
    (λ b. let k : (d : ℕ) × (class_of x ≡ suc d) = stream-class x (leb-true 16 x b) in
    rw (k.1, b, ne_eqb 0 (suc k.0) (omega arith)) (omega (arith, lone m (run {c = k.0} {n = 1} {q = 16} {p = x} (leb-true 16 x b)) (rw k.1 at e))))
    (λ b. let k = class-0 x (leb-false 16 x b) in
    rw (k, b) (omega (arith, lone m (first {q = 16} {p = x} (omega arith) (leb-false 16 x b)) (rw k at e))))

-- ---- the loop

-- sums that are those of the runs
pub record Told (m : List ℕ) (a b c d e : ℕ) : Type 0 where
  pub none : held 0 (runs (classes m)) + a ≡ length m
  pub one : held 1 (runs (classes m)) + b ≡ a
  pub two : held 2 (runs (classes m)) + c ≡ b
  pub three : held 3 (runs (classes m)) + d ≡ c
  pub four : held 4 (runs (classes m)) ≡ d
  pub gaps : wide_gaps (runs (classes m)) + e ≡ held 0 (runs (classes m))

told : {m : List ℕ} → Closed m → Told m (reach 16 m) (reach 20 m) (reach 24 m) (reach 32 m) (singles 16 16 m)
told {m} w =
    let r = reaches m in
    record {
      none = rw held-runs r.0;
      one = rw held-runs r.1;
      two = rw held-runs r.2;
      three = rw held-runs r.3;
      four = rw held-runs r.4;
      gaps = rw (held-runs 0 (classes m)) (lones m w.ends);
    }

pub record Telling (m : List ℕ) (a b c d e q p i : ℕ) : Type 0 where
  pub all : Told m (reach 16 m) (reach 20 m) (reach 24 m) (reach 32 m) (singles 16 16 m)
  pub at16 : a + reach 16 (drop i m) ≡ reach 16 m
  pub at20 : b + reach 20 (drop i m) ≡ reach 20 m
  pub at24 : c + reach 24 (drop i m) ≡ reach 24 m
  pub at32 : d + reach 32 (drop i m) ≡ reach 32 m
  pub ones : e + singles q p (drop i m) ≡ singles 16 16 m

pub begins : {m : List ℕ} → Closed m → Telling m 0 0 0 0 0 16 16 0
begins w = record { all = told w; at16 = omega arith; at20 = omega arith; at24 = omega arith; at32 = omega arith; ones = omega arith }

module _ {m : List ℕ} {a b c d e q p i : ℕ} (g : Telling m a b c d e q p i) where
  pub tells : i < length m →
      let x = get_or m i 0 in
      Telling m (a + from_bool (leb 16 x)) (b + from_bool (leb 20 x)) (c + from_bool (leb 24 x)) (d + from_bool (leb 32 x))
      (e + from_bool (alone q p x)) p x (i + 1)
  tells h =
      let n = drop-cons m i 0 h in
      rw (add-one i)
      (record {
        all = g.all;
        at16 = omega (arith, rw n at g.at16);
        at20 = omega (arith, rw n at g.at20);
        at24 = omega (arith, rw n at g.at24);
        at32 = omega (arith, rw n at g.at32);
        ones = omega (arith, rw n at g.ones);
      })

  pub ends : length m ≤ i → Told m a b c d e
  ends h =
      let z = drop_of_length-le m {i = i} h in
      let a' : a ≡ reach 16 m = omega (arith, rw z at g.at16) in
      let b' : b ≡ reach 20 m = omega (arith, rw z at g.at20) in
      let c' : c ≡ reach 24 m = omega (arith, rw z at g.at24) in
      let d' : d ≡ reach 32 m = omega (arith, rw z at g.at32) in
      let e' : e ≡ singles 16 16 m = omega (arith, rw z at g.ones) in
      rw (a', b', c', d', e') g.all

pub ended : {m : List ℕ} {a b c d e : ℕ} → Told m a b c d e
    → record { run16 = a - b; run20 = b - c; run24 = c - d; run32 = d; breaks = length m - a; wide = (length m - a) - e } ≡ sums_of (runs (classes m))
ended {m} {a} {b} {c} {d} {e} r =
    let ts = runs (classes m) in
    let e₁ : held 1 ts ≡ a - b = omega arith in
    let e₂ : held 2 ts ≡ b - c = omega arith in
    let e₃ : held 3 ts ≡ c - d = omega arith in
    let e₅ : held 0 ts ≡ length m - a = omega arith in
    let e₆ : wide_gaps ts ≡ (length m - a) - e = omega arith in
    rw (e₁, e₂, e₃, r.four, e₅, e₆)
