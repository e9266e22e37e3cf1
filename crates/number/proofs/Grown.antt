-- Laws of `Grown`: one text after the other, a text of which a part is kept, or nothing, and the digits of a number.
-- Assumes nothing.
use Prim.Native.Nat.{ℕ, ◌+◌, ◌-◌, ◌/◌, ◌%◌, ◌≤◌, ◌<◌}
use mathlib.Core.Path.{◌≡◌, refl, sym, ap, ◌∙◌}
use mathlib.Core.List.{List, [], ◌∷◌, ◌++◌, append_assoc, append-nil}
use native.Mathlib.Nat.{add-zero}
use native.Mathlib.Numerals.{add-one}
use native.Mathlib.Omega.{arith}
use lib.ListN.{length, take, drop, set, length-append, length-set, length-take}
use lib.Seq.{length-take-le, length-sets, sets-eq, take-suc-set, take-take, take-append-add, take_at}
use Rattle.number.specs.Digits.{digits}
use Rattle.number.specs.Grown.{Grown}
use Rattle.number.specs.Place.{Room, Wrote}
use Rattle.number.proofs.Digits.{digits_more, length_more}

module _ {old : List ℕ} {k : ℕ} where
  pub grown-none : Grown old old k [] k
  grown-none = record { next = sym (add-zero k); front = sym (append-nil (take k old)); long = refl }

  -- a text that was written where there is room for it
  pub wrote-grown : (xs : List ℕ) {new : List ℕ} {r : ℕ} → Room old k xs → Wrote old new k xs r → Grown old new k xs r
  wrote-grown xs {new} {r} f w =
      record {
        next = w.next;
        front =
            ap (take r) (w.bytes ∙ sets-eq xs old k f.fits)
            ∙ take_at (take k old ++ xs) (drop (k + length xs) old) r
            (omega (arith, length-append (take k old) xs, length-take-le k old (omega (arith, f.fits)), w.next));
        long = ap length w.bytes ∙ length-sets old k xs;
      }

  pub grown : (xs ys : List ℕ) {mid new : List ℕ} {r s : ℕ} → Grown old mid k xs r → Grown mid new r ys s → Grown old new k (xs ++ ys) s
  grown xs ys g h =
      record {
        next = omega (arith, length-append xs ys, g.next, h.next);
        front = h.front ∙ ap (λ (l : List ℕ). l ++ ys) g.front ∙ append_assoc (take k old) xs ys;
        long = h.long ∙ g.long;
      }

  pub within : (xs : List ℕ) {new : List ℕ} {r : ℕ} → k ≤ length old → Grown old new k xs r → r ≤ length new
  within xs {new} {r} h g = omega (arith, ap length g.front, length-take r new, length-append (take k old) xs, length-take-le k old h, g.next)

  -- a text of which the first l bytes are kept, or nothing
  pub kept : (l : ℕ) (xs : List ℕ) {new : List ℕ} {r : ℕ} → k ≤ length old → l ≤ length xs → Grown old new k xs r → Grown old new k (take l xs) (k + l)
  kept l xs {new} {r} h s g =
      record {
        next = omega (arith, length-take-le l xs s);
        front =
            sym (take-take (k + l) r new (omega (arith, g.next)))
            ∙ ap (take (k + l)) g.front
            ∙ (rw (length-take-le k old h) at (take-append-add (take k old) xs l));
        long = g.long;
      }

  pub dropped : (xs : List ℕ) {new : List ℕ} {r : ℕ} → k ≤ length old → Grown old new k xs r → Grown old new k [] k
  dropped xs h g = rw (add-zero k) at (kept 0 xs h (omega arith) g)

  -- a text without its last byte
  pub but_last : (xs : List ℕ) (b : ℕ) {new : List ℕ} {r : ℕ} → k ≤ length old → Grown old new k (xs ++ (b ∷ [])) r → Grown old new k xs (r - 1)
  but_last xs b {new} {r} h g =
      let l = length-append xs (b ∷ []) in
      let e : r - 1 ≡ k + length xs = omega (arith, g.next, l) in
      rw e (rw (take_at xs (b ∷ []) (length xs) refl) at (kept (length xs) (xs ++ (b ∷ [])) h (omega (arith, l)) g))

  pub stored : (b : ℕ) → k < length old → Grown old (set old k b) k (b ∷ []) (k + 1)
  stored b h = record { next = refl; front = rw add-one (take-suc-set old k b h); long = length-set old k b }

-- a number digit by digit: room for the digits before the last, and then the last
module _ {old : List ℕ} {k : ℕ} (n : ℕ) (h : 10 ≤ n) (f : Room old k (digits n)) where
  pub front-room : Room old k (digits (n / 10))
  front-room = record { fits = omega (arith, f.fits, length_more n h) }

  module _ {mid : List ℕ} {r : ℕ} (g : Grown old mid k (digits (n / 10)) r) where
    pub last-place : r < length mid
    last-place = omega (arith, f.fits, length_more n h, g.next, g.long)

    pub last-digit : Grown old (set mid r (48 + n % 10)) k (digits n) (r + 1)
    last-digit = rw (digits_more n h) (grown (digits (n / 10)) ((48 + n % 10) ∷ []) g (stored (48 + n % 10) last-place))
