-- Numbers in a line, parted by one space. Nothing here speaks of code.
-- Assumes nothing.
use Prim.Native.Nat.{ℕ, ◌+◌, ◌-◌, ◌≤◌, ◌<◌}
use mathlib.Core.Path.{◌≡◌, sym, ap}
use mathlib.Core.List.{List, [], ◌∷◌, ◌++◌, append-nil}
use native.Mathlib.Numerals.{add-one}
use native.Mathlib.Omega.{arith}
use lib.ListN.{length, take, drop, get_or, drop_of_length-le}
use lib.Seq.{drop-cons, take-length}
use Rattle.number.specs.Digits.{padded}
use Rattle.number.specs.Place.{Room, Wrote}
use Rattle.number.proofs.Place.{room_next, wrote}
use Rattle.rules.specs.Bytes.{bytes}
use Rattle.text_buffer.proofs.Reached as Text
use Rattle.counts_line.specs.CountsLine.{parted_by_spaces}

-- numbers, each behind a space
abbrev each_after_space : ℕ → List ℕ → List ℕ
each_after_space width [] = []
each_after_space width (n ∷ ns) = (bytes " " ++ padded width n) ++ each_after_space width ns

parted-each : (width n : ℕ) (ns : List ℕ) → parted_by_spaces width (n ∷ ns) ≡ padded width n ++ each_after_space width ns
parted-each width n [] = sym (append-nil (padded width n))
parted-each width n (k ∷ ns) = ap (λ (l : List ℕ). padded width n ++ (bytes " " ++ l)) (parted-each width k ns)

-- the numbers after the first, as a slice's pattern has them
abbrev after_first : List ℕ → List ℕ
after_first ns = take (length ns - 1) (drop 1 ns)

first-apart : (width : ℕ) (ns : List ℕ) → 1 ≤ length ns → parted_by_spaces width ns ≡ padded width (get_or ns 0 0) ++ each_after_space width (after_first ns)
first-apart width [] h = absurd (omega arith)
first-apart width (n ∷ ns) h = let e : length (n ∷ ns) - 1 ≡ length ns = omega arith in rw (e, take-length) (parted-each width n ns)

-- the loop of `put_numbers` as lists, over the numbers after the first: those up to i are put
module _ (width : ℕ) (ns old : List ℕ) (at : ℕ) where
  pub record Numbering (out : List ℕ) (place i : ℕ) : Type 0 where
    pub room : Room old at (each_after_space width ns)
    pub going : Text.Reached old at (each_after_space width ns) (each_after_space width (drop i ns)) out place

module _ {width : ℕ} {ns old : List ℕ} {at : ℕ} {out : List ℕ} {place i : ℕ} (g : Numbering width ns old at out place i) where
  module _ (h : i < length ns) where
    abbrev next : List ℕ
    next = bytes " " ++ padded width (get_or ns i 0)

    next-apart : each_after_space width (drop i ns) ≡ next ++ each_after_space width (drop (i + 1) ns)
    next-apart = rw (add-one, drop-cons ns i 0 h)

    pub next-room : Room out place next
    next-room = Text.room-part g.going _ _ next-apart g.room

    pub put_next : {new : List ℕ} {r : ℕ} → Wrote out new place next r → Numbering width ns old at new r (i + 1)
    put_next w = record { room = g.room; going = Text.on g.going _ _ next-apart w }

module _ (width : ℕ) (ns : List ℕ) {old : List ℕ} {at : ℕ} (some : 1 ≤ length ns) (h : Room old at (parted_by_spaces width ns)) where
  all_room : Room old at (padded width (get_or ns 0 0) ++ each_after_space width (after_first ns))
  all_room = rw (first-apart width ns some) at h

  module _ {mid : List ℕ} {next : ℕ} (w : Wrote old mid at (padded width (get_or ns 0 0)) next) where
    pub put_first : Numbering width (after_first ns) mid next mid next 0
    put_first = record { room = room_next _ _ w all_room; going = Text.starts }

    pub put_all : {new : List ℕ} {place i : ℕ} → Numbering width (after_first ns) mid next new place i → length (after_first ns) ≤ i
        → Wrote old new at (parted_by_spaces width ns) place
    put_all {i = i} g e =
        rw (first-apart width ns some) (wrote _ _ w (Text.finished g.going (rw (drop_of_length-le (after_first ns) {i = i} e))))
