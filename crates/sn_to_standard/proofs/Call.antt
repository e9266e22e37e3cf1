-- What meets the promise of `sn_to_standard`: by the text's number, and then by the room for what is written.
-- Assumes nothing.
use Prim.Native.Nat.{ℕ, ◌≤◌}
use mathlib.Core.Path.{◌≡◌, refl, sym, ap, ◌∙◌}
use mathlib.Core.Bool.{Bool, true, false, cond, not}
use mathlib.Core.Logic.{◌≢◌}
use mathlib.Core.List.{List, [], ◌∷◌}
use native.Mathlib.Omega.{arith}
use lib.Dec.{leb}
use lib.ListN.{length}
use borrow.Author.Tests.{leb-true, leb-false}
use Rattle.number.specs.Questions.{Question, first_no, accepted, room_for, OneText}
use Rattle.number.specs.Place.{Room, Wrote}
use Rattle.number.specs.declared.Written.{Written}
use Rattle.number.proofs.Split.{split}
use Rattle.number.proofs.Questions.{refused-is}
use Rattle.number.proofs.Push.{room-yes, refused-4, refused}
use Rattle.number.proofs.Place.{one-text}
use Rattle.rules.specs.Bytes.{bytes}
use Rattle.rules.specs.Slices.{total}
use Rattle.rules.specs.Texts.{render}
use Rattle.sn_to_standard.specs.Reader.{Reading, outside, inside, reading}
use Rattle.sn_to_standard.specs.Converted.{with_gaps, undecided, within_rules, decided, converted}
use Rattle.sn_to_standard.specs.Copied.{copied}
use Rattle.sn_to_standard.specs.Promises.{text_no, sn_to_standard_no, SnToStandard}
use Rattle.sn_to_standard.proofs.Laws.{long-fails}
use Rattle.sn_to_standard.proofs.Copying.{copy-converted}

-- ---- questions

-- 18 unless a, then 19 if b, else k
abbrev no : Bool → Bool → ℕ → ℕ
no a b k = cond a (cond (not b) k 19) 18

asked-last : (a b : Bool) (k : ℕ) → no a b k ≡ accepted (no a b 0) k (no a b 0)
asked-last true true k = refl
asked-last true false k = refl
asked-last false b k = refl

decided-then : (a b : Bool) → no a b 0 ≡ 0 → b ≡ false
decided-then true true e = absurd (omega arith)
decided-then true false e = refl
decided-then false b e = absurd (omega arith)

room-last : (r : Reading) (q : Question)
    → first_no (within_rules r ∷ decided r ∷ q ∷ [])
    ≡ accepted (first_no (within_rules r ∷ decided r ∷ [])) (first_no (q ∷ [])) (first_no (within_rules r ∷ decided r ∷ []))
room-last outside q = refl
room-last (inside ts) q = asked-last (leb (total (with_gaps ts)) 1048576) (undecided ts) (first_no (q ∷ []))

is-copied : (t : List ℕ) (r : Reading) → t ≢ [] → reading t ≡ r → first_no (within_rules r ∷ decided r ∷ []) ≡ 0 → converted t ≡ copied t
is-copied t outside h e z = absurd (omega arith)
is-copied t (inside ts) h e z = copy-converted t ts h e (decided-then (leb (total (with_gaps ts)) 1048576) (undecided ts) z)

is-empty : (t : List ℕ) → length t ≡ 0 → converted t ≡ bytes "No Streams!"
unfolding converted reading render
is-empty [] h = refl
is-empty (x ∷ xs) h = absurd (omega arith)

-- a text that passes 18 is not refused unread
pub call-short : (t : List ℕ) → 0 ≡ text_no t → length t ≤ 4194304
call-short t e =
    split (leb (length t) 4194304) (leb-true (length t) 4194304)
    (λ h. let k = long-fails t (leb-false (length t) 4194304 h) in absurd (omega (arith, e)))

-- ---- the call

module _ (t old : List ℕ) where
  call-no : (n : ℕ) → n ≡ text_no t → sn_to_standard_no t old ≡ accepted n (first_no (room_for (converted t) old ∷ [])) n
  unfolding text_no sn_to_standard_no
  call-no n e = rw e (room-last (reading t) (room_for (converted t) old))

  pub call-refused : (n : ℕ) → n ≡ text_no t → n ≢ 0 → SnToStandard t old old (record { refused = n; length = 0 })
  call-refused n e h = rw (call-no n e, refused-is n (first_no (room_for (converted t) old ∷ [])) n h) (refused (converted t) old n h)

  module _ (e : 0 ≡ text_no t) {new : List ℕ} {r : Written} where
    by-room : (text : List ℕ) → converted t ≡ text → OneText (first_no (room_for text old ∷ [])) text old new r → SnToStandard t old new r
    by-room text q h = rw (call-no 0 e, q) h

    pub call-empty : length t ≡ 0 → OneText (first_no (room_for (bytes "No Streams!") old ∷ [])) (bytes "No Streams!") old new r → SnToStandard t old new r
    call-empty l h = by-room (bytes "No Streams!") (is-empty t l) h

    pub call-copied : length t ≢ 0 → OneText (first_no (room_for (copied t) old ∷ [])) (copied t) old new r → SnToStandard t old new r
    unfolding text_no
    call-copied l h = by-room (copied t) (is-copied t (reading t) (λ q. l (ap length q)) refl (sym e)) h

-- ---- room

module _ {b : Bool} {text old : List ℕ} (e : b ≡ leb (length text) (length old)) where
  pub no_room : b ≡ false → OneText (first_no (room_for text old ∷ [])) text old old (record { refused = 4; length = 0 })
  no_room h = refused-4 text old (leb-false (length text) (length old) (sym e ∙ h))

  pub has_room : b ≡ true → Room old 0 text
  has_room h = record { fits = omega (arith, leb-true (length text) (length old) (sym e ∙ h)) }

pub put_whole : {text old new : List ℕ} {n : ℕ} → Room old 0 text → Wrote old new 0 text n
    → OneText (first_no (room_for text old ∷ [])) text old new (record { refused = 0; length = n })
put_whole {text} {old} {new} {n} room w =
    let h : length text ≤ length old = omega (arith, room.fits) in
    rw (room-yes text old h) (one-text text old new n h w)
