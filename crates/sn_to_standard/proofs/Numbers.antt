-- At most one number is written at a place of a text; and the loop of `read_number`.
-- Assumes nothing.
use Prim.Native.Nat.{ℕ, zero, suc, ◌+◌, ◌-◌, ◌*◌, ◌/◌, ◌%◌, ◌≤◌, ◌<◌}
use mathlib.Core.Path.{◌≡◌, refl, sym, ap, ◌∙◌}
use mathlib.Core.Bool.{true, cond, and-eq-true_iff}
use mathlib.Core.List.{List, [], ◌∷◌, ◌++◌, append_assoc, append_cancel_left}
use native.Mathlib.Numerals.{add-one}
use native.Mathlib.Omega.{arith}
use lib.Dec.{leb}
use lib.ListN.{length, drop, get_or, length-append, length-drop}
use lib.Seq.{drop-cons}
use borrow.Author.Tests.{leb-true}
use Rattle.number.specs.Digits.{digits, is_digit, value}
use Rattle.number.proofs.Split.{split}
use Rattle.number.proofs.Each.{none, ◌&◌, All}
use Rattle.number.proofs.Digits.{digits-one, digits_more, length_some}
use Rattle.number.proofs.Read.{value-digits, digits-all, first, no-leading-zero}
use Rattle.sn_to_standard.specs.Items.{Within, Stops, NumberIs, NumberRead}

-- the digits at the front of some bytes
abbrev leading : List ℕ → List ℕ
leading [] = []
leading (x ∷ xs) = cond (is_digit x) (x ∷ leading xs) []

leading-front : {ds : List ℕ} (xs : List ℕ) → All is_digit true ds → leading (ds ++ xs) ≡ ds ++ leading xs
leading-front xs none = refl
leading-front xs (h & hs) = rw (h, leading-front xs hs)

leading-none : (xs : List ℕ) → Stops xs → leading xs ≡ []
leading-none [] s = refl
leading-none (x ∷ xs) s = rw s

front-value : (n : ℕ) (rest : List ℕ) → value 0 (leading (digits n ++ rest)) ≡ value n (leading rest)
front-value n rest = rw (leading-front rest (digits-all n)) (value-digits n (leading rest))

number-value : {xs rest : List ℕ} {n : ℕ} → NumberIs xs rest n → value 0 (leading xs) ≡ n
number-value {rest = rest} {n = n} w = rw w.written (front-value n rest ∙ rw (leading-none rest w.stops))

pub one_number : {xs ys zs : List ℕ} {n m : ℕ} → NumberIs xs ys n → NumberIs xs zs m → (n ≡ m) × (ys ≡ zs)
one_number {ys = ys} {zs = zs} {n = n} v w =
    let e = sym (number-value v) ∙ number-value w in
    (e, append_cancel_left (digits n) ys zs (sym v.written ∙ rw e w.written))

-- ---- digit by digit

value-least : (v : ℕ) (xs : List ℕ) → v ≤ value v xs
value-least v [] = omega arith
value-least v (x ∷ xs) = split (is_digit x) (λ e. rw e (omega (arith, value-least (10 * v + (x - 48)) xs))) (λ e. rw e (value-least v xs))

no-zero-first : (ys rest : List ℕ) (n : ℕ) → 1 ≤ n → ¬ (48 ∷ ys ≡ digits n ++ rest)
no-zero-first ys rest n h = go (digits n) (no-leading-zero n h)
  where
    go : (ds : List ℕ) → 48 < first ds → ¬ (48 ∷ ys ≡ ds ++ rest)
    go [] l e = omega arith
    go (d ∷ ds) l e = omega (arith, ap first e)

pub digit-bounds : (x : ℕ) → is_digit x ≡ true → (48 ≤ x) × (x ≤ 57)
digit-bounds x e = let h = (and-eq-true_iff (leb 48 x) (leb x 57)).0 e in (leb-true 48 x h.0, leb-true x 57 h.1)

one_more : (v d : ℕ) → 1 ≤ v → d < 10 → digits (10 * v + d) ≡ digits v ++ ((48 + d) ∷ [])
one_more v d g h =
    let q : (10 * v + d) / 10 ≡ v = omega arith in
    let r : (10 * v + d) % 10 ≡ d = omega arith in
    rw (digits_more (10 * v + d) (omega arith), q, r)

-- the digits from `at` up to i write the value, 0 before the first
pub record Going (text : List ℕ) (at value i : ℕ) : Type 0 where
  pub within : i ≤ length text
  pub most : value ≤ 1048576
  pub none : value ≡ 0 → i ≡ at
  pub some : 1 ≤ value → drop at text ≡ digits value ++ drop i text

pub starts : {text : List ℕ} {at : ℕ} → Within text at → Going text at 0 at
starts p = record { within = p.within; most = omega arith; none = λ e. refl; some = λ h. absurd (omega arith) }

module _ {text : List ℕ} {at v i : ℕ} (g : Going text at v i) where
  pub stopped : Stops (drop i text) → NumberRead text at (record { value = v; next = i })
  stopped s =
      record {
        most = g.most;
        within = g.within;
        none = λ z n rest l m w. let e = rw (← (g.none z), leading-none (drop i text) s) at (number-value w) in omega arith;
        some = λ h. record { written = g.some h; stops = s };
        further = λ h. omega (arith, length-append (digits v) (drop i text), ap length (g.some h), length_some v, length-drop at text, length-drop i text);
      }

  none_read : ((n : ℕ) (rest : List ℕ) → 1 ≤ n → n ≤ 1048576 → ¬ (NumberIs (drop at text) rest n)) → NumberRead text at (record { value = 0; next = i })
  none_read n = record { most = omega arith; within = g.within; none = λ e. n; some = λ h. absurd (omega arith); further = λ h. absurd (omega arith) }

  module _ (h : i < length text) (b : (48 ≤ get_or text i 0) × (get_or text i 0 ≤ 57)) where
    abbrev x : ℕ
    x = get_or text i 0

    abbrev more : ℕ
    more = 10 * v + (x - 48)

    here : drop i text ≡ x ∷ drop (suc i) text
    here = drop-cons text i 0 h

    pub by_zero : more ≡ 0 → NumberRead text at (record { value = 0; next = i })
    by_zero e =
        let z : x ≡ 48 = omega arith in
        let s = rw z at here in
        none_read (λ n rest l m w. no-zero-first (drop (suc i) text) rest n l (sym s ∙ rw (g.none (omega arith)) w.written))

    added : 1 ≤ more → (k : ℕ) → v ≡ k → drop at text ≡ digits (10 * k + (x - 48)) ++ drop (suc i) text
    added m zero e =
        let one : 10 * 0 + (x - 48) ≡ x - 48 = omega arith in
        let s : 48 + (x - 48) ≡ x = omega arith in
        rw (← (g.none e), here, one, digits-one (x - 48) (omega arith), s)
    added m (suc k) e =
        let s : 48 + (x - 48) ≡ x = omega arith in
        rw (one_more (suc k) (x - 48) (omega arith) (omega arith), s, append_assoc (digits (suc k)) (x ∷ []) (drop (suc i) text), ← here, ← e)
        (g.some (omega arith))

    pub by-large : 1048576 < more → NumberRead text at (record { value = 0; next = i })
    by-large m =
        none_read (λ n rest l k w.
        let e : n ≡ value more (leading (drop (suc i) text)) = sym (number-value w) ∙ rw (added (omega arith) v refl) (front-value more (drop (suc i) text)) in
        omega (arith, value-least more (leading (drop (suc i) text))))

    pub goes_on_lem : 1 ≤ more → more ≤ 1048576 → Going text at more (i + 1)
    goes_on_lem l m = record { within = omega arith; most = m; none = λ e. absurd (omega arith); some = λ q. rw (add-one i) (added l v refl) }
