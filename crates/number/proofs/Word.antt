-- Laws of words: byte by byte, in a buffer, where of the four bytes those are kept that count, and the words of numbers below 100.
-- Assumes nothing.
use Prim.Native.Nat.{ℕ, zero, suc, ◌+◌, ◌*◌, ◌/◌, ◌%◌, ◌≤◌, ◌<◌}
use mathlib.Core.Path.{◌≡◌, refl, sym, ap, ◌∙◌}
use mathlib.Core.Logic.{◌≢◌}
use mathlib.Core.Bool.{cond}
use mathlib.Core.List.{List, [], ◌∷◌, ◌++◌}
use native.Mathlib.Numerals.{add-one}
use native.Mathlib.Omega.{arith}
use lib.Dec.{eqb}
use lib.ListN.{length, set}
use lib.Seq.{sets, length-take-le, take-append-le}
use borrow.Author.Tests.{eqb-true, eqb-false}
use Rattle.number.specs.Digits.{digits}
use Rattle.number.specs.Grown.{Grown}
use Rattle.number.specs.Word.{byte_text, word_text, word_bytes, Word}
use Rattle.number.proofs.Split.{split}
use Rattle.number.proofs.Digits.{digits-one, digits_more}
use Rattle.number.proofs.Grown.{wrote-grown, kept}

pub byte-text : (b : ℕ) → b ≢ 0 → byte_text b ≡ b ∷ []
byte-text zero h = absurd (h refl)
byte-text (suc b) h = refl

-- how many bytes of a word count
pub word_count : {xs : List ℕ} {w : ℕ} → Word xs w → w / 16777216 ≡ length xs
word_count {w = w} h = sym (length-take-le (w / 16777216) _ h.short) ∙ ap length h.text

-- a word before another, by the text of that
pub word_on : (xs : List ℕ) {ys : List ℕ} {v w : ℕ} → Word ys v → Word (xs ++ word_text v) w → Word (xs ++ ys) w
word_on xs h g = rw h.text at g

-- a byte before a word of up to two
pub byte-before : (b w : ℕ) → b < 256 → b ≢ 0 → w / 16777216 ≤ 2 → Word (byte_text b ++ word_text w) ((w / 16777216 + 1) * 16777216 + w % 65536 * 256 + b)
byte-before b w l z s =
    let r = (w / 16777216 + 1) * 16777216 + w % 65536 * 256 + b in
    let many : r / 16777216 ≡ w / 16777216 + 1 = omega arith in
    let first : r % 256 ≡ b = omega arith in
    let low : w % 65536 ≡ w / 256 % 256 * 256 + w % 256 = omega arith in
    let high : r / 256 ≡ ((w / 16777216 + 1) * 256 + w / 256 % 256) * 256 + w % 256 = omega arith in
    let second : r / 256 % 256 ≡ w % 256 = rw high (omega arith) in
    let top : r / 65536 ≡ (w / 16777216 + 1) * 256 + w / 256 % 256 = omega arith in
    let third : r / 65536 % 256 ≡ w / 256 % 256 = rw top (omega arith) in
    record {
      text = rw (byte-text b z, many, first, second, third, add-one) (ap (λ (xs : List ℕ). b ∷ xs) (sym (take-append-le (w / 16777216) (w % 256 ∷ w / 256 % 256 ∷ []) (w / 65536 % 256 ∷ []) s)));
      short = omega arith;
    }

-- the four stores of a word
pub word-stored : (old : List ℕ) (k w : ℕ)
    → set (set (set (set old k (w % 256)) (k + 1) (w / 256 % 256)) (k + 2) (w / 65536 % 256)) (k + 3) (w / 16777216) ≡ sets old k (word_bytes w)
word-stored old k w =
    let two : k + 2 ≡ suc (suc k) = omega arith in
    let three : k + 3 ≡ suc (suc (suc k)) = omega arith in
    rw (add-one, two, three) refl

-- of the four bytes those are kept that count
pub word_kept : {old new : List ℕ} {k : ℕ} (w : ℕ) → k + 4 ≤ length old → w / 16777216 ≤ 3 → new ≡ sets old k (word_bytes w)
    → Grown old new k (word_text w) (k + w / 16777216)
word_kept {old} {new} {k} w h s e =
    let l = w / 16777216 in
    let four = wrote-grown {old = old} {k = k} (word_bytes w) {new = new} {r = k + 4} (record { fits = h }) (record { next = refl; bytes = e }) in
    rw (take-append-le l (w % 256 ∷ w / 256 % 256 ∷ w / 65536 % 256 ∷ []) (l ∷ []) s) at (kept l (word_bytes w) (omega arith) (omega arith) four)

-- a word's text
pub worded : {old new : List ℕ} {k r : ℕ} {xs : List ℕ} {w : ℕ} → Word xs w → Grown old new k (word_text w) r → Grown old new k xs r
worded h g = rw h.text at g

-- a number below 100 by its digits, of which the first may be missing
pub short-digits : (tens last : ℕ) → tens ≤ 9 → last < 10 → byte_text (cond (eqb tens 0) 0 (48 + tens)) ++ ((48 + last) ∷ []) ≡ digits (10 * tens + last)
short-digits tens last h l =
    split (eqb tens 0)
    (λ e. let z = eqb-true tens 0 e in
    let only : 10 * tens + last ≡ last = omega arith in
    rw (e, only, digits-one last l) refl)
    (λ e. let z = eqb-false tens 0 e in
    let some : 10 ≤ 10 * tens + last = omega arith in
    let first : (10 * tens + last) / 10 ≡ tens = omega arith in
    let second : (10 * tens + last) % 10 ≡ last = omega arith in
    rw (e, byte-text (48 + tens) (λ q. omega arith), digits_more (10 * tens + last) some, first, second, digits-one tens (omega arith)) refl)
