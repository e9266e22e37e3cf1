-- Laws of `Room` and `Wrote`: one text after the other, and from them to `OneText`.
-- Assumes nothing.
use Prim.Native.Nat.{ℕ, suc, ◌+◌, ◌-◌, ◌≤◌, ◌<◌}
use mathlib.Core.Path.{◌≡◌, refl, sym, ap, ◌∙◌}
use mathlib.Core.List.{List, [], ◌∷◌, ◌++◌, append_assoc, append-nil}
use native.Mathlib.Nat.{add-zero, zero-add, add-suc, suc-add}
use native.Mathlib.Numerals.{add-one}
use native.Mathlib.Omega.{arith}
use lib.ListN.{length, take, drop, get_or, set, length-append, length-drop, drop_of_length-le}
use lib.Seq.{sets, length-sets, sets-eq, take-suc, take_all, drop-drop}
use borrow.Rule.Slice.PartMut.{put_mid}
use Rattle.number.specs.Questions.{first_no, filled, room_for, OneText}
use Rattle.number.specs.Place.{Room, Wrote}
use Rattle.number.specs.declared.Written.{Written}
use Rattle.number.proofs.Push.{room-yes}

sets-append : (xs ys l : List ℕ) (i : ℕ) → sets (sets l i xs) (i + length xs) ys ≡ sets l i (xs ++ ys)
sets-append [] ys l i = rw add-zero
sets-append (x ∷ xs) ys l i = rw (add-suc, ← (suc-add i (length xs))) (sets-append xs ys _ (suc i))

-- a part that is written whole, as by `copy_from_slice`
pub put-part : (old ys : List ℕ) (at n : ℕ) → n ≡ length ys → at + length ys ≤ length old → put_mid at n old ys ≡ sets old at ys
put-part old ys at n l h = rw (sets-eq ys old at h, l, drop-drop (length ys) at old) (sym (append_assoc (take at old) ys (drop (at + length ys) old)))

module _ {old : List ℕ} {at : ℕ} where
  -- nothing written
  pub still : Wrote old old at [] at
  still = record { next = sym (add-zero at); bytes = refl }

  module _ (xs ys : List ℕ) where
    pub room-first : Room old at (xs ++ ys) → Room old at xs
    room-first h = record { fits = omega (arith, length-append xs ys, h.fits) }

    module _ {mid : List ℕ} {r : ℕ} (g : Wrote old mid at xs r) where
      pub wrote-length : length mid ≡ length old
      wrote-length = ap length g.bytes ∙ length-sets old at xs

      pub room_next : Room old at (xs ++ ys) → Room mid r ys
      room_next h = record { fits = omega (arith, length-append xs ys, h.fits, g.next, wrote-length) }

      pub wrote : {new : List ℕ} {s : ℕ} → Wrote mid new r ys s → Wrote old new at (xs ++ ys) s
      wrote h =
          record {
            next = omega (arith, length-append xs ys, g.next, h.next);
            bytes = h.bytes ∙ rw (g.bytes, g.next) (sets-append xs ys old at);
          }

-- a text at the slice's start, which has room for it
pub at-start : (xs old new : List ℕ) (r : ℕ) → length xs ≤ length old → Wrote old new 0 xs r → (r ≡ length xs) × (new ≡ filled old xs)
at-start xs old new r h g = (g.next ∙ zero-add (length xs), g.bytes ∙ sets-eq xs old 0 (rw zero-add h) ∙ rw zero-add)

-- a list p that is written element by element: those before i are
module _ (p old : List ℕ) (at : ℕ) where
  pub record Putting (new : List ℕ) (i : ℕ) : Type 0 where
    pub within : i ≤ length p
    pub room : at + length p ≤ length old
    pub long : length new ≡ length old
    pub written : Wrote old new at (take i p) (at + i)

  pub put-starts : Room old at p → Putting old 0
  put-starts r = record { within = omega arith; room = r.fits; long = refl; written = rw (add-zero at) still }

module _ {p old new : List ℕ} {at i : ℕ} (g : Putting p old at new i) where
  one_more : i < length p → Wrote old (set new (at + i) (get_or p i 0)) at (take (i + 1) p) (at + (i + 1))
  one_more h =
      let b = get_or p i 0 in
      let one : Wrote new (set new (at + i) b) (at + i) (b ∷ []) (at + (i + 1)) = record { next = omega arith; bytes = refl } in
      rw (add-one i, take-suc p i 0 h) (rw (add-one i) at (wrote (take i p) (b ∷ []) g.written one))

  pub put_step : i < length p → Putting p old at (set new (at + i) (get_or p i 0)) (i + 1)
  put_step h =
      record {
        within = omega arith;
        room = g.room;
        long = wrote-length (take (i + 1) p) [] (one_more h);
        written = one_more h;
      }

  pub put-done : length p ≤ i → Wrote old new at p (at + i)
  put-done h = rw (take_all i p h) at g.written

-- what an accepted call that wrote one text answers and leaves
pub one-text : (xs old new : List ℕ) (r : ℕ) → length xs ≤ length old → Wrote old new 0 xs r → OneText 0 xs old new (record { refused = 0; length = r })
one-text xs old new r h g =
    let s = at-start xs old new r h g in
    record { answer = ap (λ (k : ℕ). record { refused = 0; length = k }) s.0; bytes = s.1 }

-- the part from `at` on is lent, and xs is written at its start
module _ (xs old last : List ℕ) (at : ℕ) (room : Room old at xs) where
  abbrev part : List ℕ
  part = take (length old - at) (drop at old)

  whole : part ≡ drop at old
  whole = take_all (length old - at) (drop at old) (simp length-drop (omega (arith, room.fits)))

  pub part_room : length xs ≤ length part
  part_room = rw (whole, length-drop) (omega (arith, room.fits))

  pub part_filled : last ≡ filled part xs → Wrote old (put_mid at (length old - at) old last) at xs (at + length xs)
  part_filled p =
      let e : last ≡ xs ++ drop (length xs) (drop at old) = rw whole at p in
      let nothing : drop (at + (length old - at)) old ≡ [] = drop_of_length-le old {i = at + (length old - at)} (omega (arith, room.fits)) in
      record {
        next = refl;
        bytes = rw (sets-eq xs old at room.fits, e, drop-drop (length xs) at old, drop-drop (length old - at) at old, nothing, append-nil)
            (sym (append_assoc (take at old) xs (drop (at + length xs) old)));
      }

  -- by a worker that fills the part; the text is told in parts
  pub part-put : {ys : List ℕ} {n : ℕ} → xs ≡ ys → n ≡ length xs → last ≡ filled part ys → Wrote old (put_mid at (length old - at) old last) at xs (at + n)
  part-put e l p = rw l (part_filled (rw e p))

  -- by a call that writes one text: what it answers is the text's length
  module _ (r : Written) (p : OneText (first_no (room_for xs part ∷ [])) xs part last r) where
    pub part_length : r.length ≡ length xs
    part_length = ap (λ (w : Written). w.length) (rw (room-yes xs part part_room) at p.answer)
