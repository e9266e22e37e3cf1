-- A text that is written up to some place: what is done, and the rest.
-- Assumes nothing.
use Prim.Native.Nat.{ℕ}
use mathlib.Core.Path.{◌≡◌, refl, ◌∙◌}
use mathlib.Core.List.{List, [], ◌++◌, append_assoc, append-nil}
use lib.ListN.{length}
use Rattle.number.specs.Place.{Room, Wrote}
use Rattle.number.proofs.Place.{still, room-first, room_next, wrote, wrote-length}

-- of the text `whole`, all but `rest` stands at `at` in what was `old`
pub record Reached (old : List ℕ) (at : ℕ) (whole rest out : List ℕ) (place : ℕ) : Type 0 where
  pub done : List ℕ
  pub text : done ++ rest ≡ whole
  pub sofar : Wrote old out at done place

pub starts : {old : List ℕ} {at : ℕ} {whole : List ℕ} → Reached old at whole whole old at
starts = record { done = []; text = refl; sofar = still }

module _ {old : List ℕ} {at : ℕ} {whole rest out : List ℕ} {place : ℕ} (g : Reached old at whole rest out place) where
  pub long : length out ≡ length old
  long = wrote-length g.done [] g.sofar

  pub room : Room old at whole → Room out place rest
  room h = room_next g.done rest g.sofar (rw g.text h)

  pub room-part : (chunk last : List ℕ) → rest ≡ chunk ++ last → Room old at whole → Room out place chunk
  room-part chunk last e h = room-first chunk last (rw e at (room h))

  pub on : (chunk last : List ℕ) {new : List ℕ} {r : ℕ} → rest ≡ chunk ++ last → Wrote out new place chunk r → Reached old at whole last new r
  on chunk last e h =
      record {
        done = g.done ++ chunk;
        text = append_assoc g.done chunk last ∙ rw (← e) g.text;
        sofar = wrote g.done chunk g.sofar h;
      }

  pub finished : rest ≡ [] → Wrote old out at whole place
  finished e = rw (← g.text, e, append-nil) g.sofar

  -- the rest is written too
  pub ends : {new : List ℕ} {r : ℕ} → Wrote out new place rest r → Wrote old new at whole r
  ends h = rw (← g.text) (wrote g.done rest g.sofar h)
