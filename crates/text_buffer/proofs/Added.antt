-- Laws of `Added`: one text after the other, and a text that stands in the buffer alone.
-- Assumes nothing.
use Prim.Native.Nat.{ℕ, ◌+◌, ◌≤◌}
use mathlib.Core.Path.{◌≡◌, refl, sym, ap, ◌∙◌}
use mathlib.Core.List.{List, [], ◌++◌, append_assoc, append-nil}
use native.Mathlib.Omega.{arith}
use lib.ListN.{length, take, length-append}
use lib.Seq.{length-take-le}
use Rattle.number.specs.Place.{Room, Wrote}
use Rattle.number.proofs.Place.{still, room-first, room_next, wrote, wrote-length}
use Rattle.number.specs.Grown.{Grown}
use Rattle.text_buffer.specs.Buffer.{Added, Ready, goes_on}
use Rattle.text_buffer.specs.declared.buffer.Left.{Left}

pub added_none : {buf out : List ℕ} {from : Left} → from.left ≤ 1984 → Added buf out from [] buf out from
added_none {buf} {out} {from} h = record { front = []; wrote = still; all = sym (append-nil (take from.left buf)); long = refl; few = h }

module _ {old out : List ℕ} {from : Left} (xs : List ℕ) {buf mid : List ℕ} {to : Left} (a : Added old out from xs buf mid to) where
  -- all of it, with ys behind it
  behind : (ys : List ℕ) → a.front ++ (take to.left buf ++ ys) ≡ take from.left old ++ (xs ++ ys)
  behind ys =
      sym (append_assoc a.front (take to.left buf) ys)
      ∙ ap (λ (l : List ℕ). l ++ ys) a.all
      ∙ append_assoc (take from.left old) xs ys

  pub added-room : (ys : List ℕ) → Room out from.place (take from.left old ++ (xs ++ ys)) → Room mid to.place (take to.left buf ++ ys)
  added-room ys r = room_next a.front (take to.left buf ++ ys) a.wrote (rw (behind ys) r)

  pub added : (ys : List ℕ) {last new : List ℕ} {end : Left} → Added buf mid to ys last new end → Added old out from (xs ++ ys) last new end
  added ys {last} {new} {end} b =
      record {
        front = a.front ++ b.front;
        wrote = wrote a.front b.front a.wrote b.wrote;
        all = append_assoc a.front b.front (take end.left last) ∙ ap (λ (l : List ℕ). a.front ++ l) b.all ∙ behind ys;
        long = b.long ∙ a.long;
        few = b.few;
      }

  pub added_out : length mid ≡ length out
  added_out = wrote-length a.front [] a.wrote

  pub added-ready : {l : ℕ} → Ready old l → Ready buf to.left
  added-ready h = record { long = rw a.long h.long; few = a.few }

  -- how far the text goes
  pub added_next : from.left ≤ length old → to.left ≤ length buf → to.place + to.left ≡ from.place + from.left + length xs
  added_next h g =
      omega (
        arith,
        a.wrote.next,
        ap {B = ℕ} length a.all,
        length-append a.front (take to.left buf),
        length-append (take from.left old) xs,
        length-take-le from.left old h,
        length-take-le to.left buf g,
      )

  -- room for what stands in the buffer at the end
  pub room-left : Room out from.place (take from.left old ++ xs) → Room mid to.place (take to.left buf)
  room-left r = room_next a.front (take to.left buf) a.wrote (rw a.all r)

-- ys in the buffer, which is then written if it is nearly full
module _ {buf new : List ℕ} {k : ℕ} (ys : List ℕ) {full : ℕ} (g : Grown buf new k ys full) where
  pub grown-room : {out : List ℕ} {place : ℕ} (more : List ℕ) → Room out place (take k buf ++ (ys ++ more)) → Room out place (take full new)
  grown-room more r = rw g.front (room-first (take k buf ++ ys) more (rw (append_assoc (take k buf) ys more) r))

  pub grown-added : {out last : List ℕ} {place : ℕ} {to : Left} → Added new out (goes_on place full) [] new last to
      → Added buf out (goes_on place k) ys new last to
  grown-added {to = to} f =
      record {
        front = f.front;
        wrote = f.wrote;
        all = f.all ∙ append-nil (take full new) ∙ g.front;
        long = g.long;
        few = f.few;
      }

  -- the buffer is not nearly full
  pub grown-only : {out : List ℕ} {place : ℕ} → full ≤ 1984 → Added buf out (goes_on place k) ys new out (goes_on place full)
  grown-only h = grown-added (added_none h)

-- a text that grows by ys
module _ {old out : List ℕ} {from : Left} (xs : List ℕ) {buf mid : List ℕ} {to : Left} (a : Added old out from xs buf mid to)
    (ys : List ℕ) {new : List ℕ} {full : ℕ} (g : Grown buf new to.left ys full) where
  pub step_room : (more : List ℕ) → Room out from.place (take from.left old ++ ((xs ++ ys) ++ more)) → Room mid to.place (take full new)
  step_room more r = grown-room ys g more (added-room xs a (ys ++ more) (rw (← (append_assoc xs ys more)) r))

  pub step : {last : List ℕ} {end : Left} → Added new mid (goes_on to.place full) [] new last end → Added old out from (xs ++ ys) new last end
  step f = added xs a ys (grown-added ys g f)

-- from an empty buffer, which is written at the end
pub added-ends : {old out : List ℕ} {at : ℕ} (xs : List ℕ) {buf mid new : List ℕ} {to : Left} {r : ℕ} → Added old out (goes_on at 0) xs buf mid to
    → Wrote mid new to.place (take to.left buf) r → Wrote out new at xs r
added-ends xs {buf} {to = to} a w = rw (← a.all) (wrote a.front (take to.left buf) a.wrote w)

-- of the text `whole`, all but `rest` is added
pub record Begun (old out : List ℕ) (from : Left) (whole rest buf new : List ℕ) (to : Left) : Type 0 where
  pub done : List ℕ
  pub text : whole ≡ done ++ rest
  pub sofar : Added old out from done buf new to

pub begins : {buf out : List ℕ} {from : Left} {whole : List ℕ} → from.left ≤ 1984 → Begun buf out from whole whole buf out from
begins h = record { done = []; text = refl; sofar = added_none h }

module _ {old out : List ℕ} {from : Left} {whole rest buf new : List ℕ} {to : Left} (g : Begun old out from whole rest buf new to) where
  pub room : Room out from.place (take from.left old ++ whole) → Room new to.place (take to.left buf ++ rest)
  room h = added-room g.done g.sofar rest (rw g.text at h)

  pub ready : {l : ℕ} → Ready old l → Ready buf to.left
  ready h = added-ready g.done g.sofar h

  pub on : (chunk last : List ℕ) {buf' new' : List ℕ} {to' : Left} → rest ≡ chunk ++ last → Added buf new to chunk buf' new' to'
      → Begun old out from whole last buf' new' to'
  on chunk last e a =
      record {
        done = g.done ++ chunk;
        text = g.text ∙ ap (λ (l : List ℕ). g.done ++ l) e ∙ sym (append_assoc g.done chunk last);
        sofar = added g.done g.sofar chunk a;
      }

  -- the rest is added too
  pub ends : {buf' new' : List ℕ} {to' : Left} → Added buf new to rest buf' new' to' → Added old out from whole buf' new' to'
  ends a = rw g.text (added g.done g.sofar rest a)
