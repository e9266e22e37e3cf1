-- Single bytes and short texts, by cases on their numbers.
-- Assumes nothing.
use Prim.Native.Nat.{ℕ, zero, suc, ◌^◌, ◌≤◌, ◌<◌}
use mathlib.Core.Path.{◌≡◌, refl, sym}
use mathlib.Core.Bool.{Bool, true, false}
use mathlib.Core.List.{[], ◌++◌, append_assoc}
use native.Mathlib.Omega.{arith}
use lib.Dec.{leb}
use lib.ListN.{length, length-append}
use borrow.Author.Tests.{le-leb, lt-leb}
use Rattle.number.proofs.Split.{split}
use Rattle.number.proofs.Digits.{at_most}
use Rattle.number.specs.Digits.{digits}
use Rattle.rules.specs.Bytes.{bytes}
use Rattle.rules.specs.Reduced.{run, gap, sign_of}
use Rattle.rules.specs.Texts.{mark, star, part, word}
use Rattle.number.specs.Word.{byte_text}
use Rattle.text_buffer.specs.Words.{side}

pub byte-short : (b : ℕ) → length (byte_text b) ≤ 1
byte-short zero = omega arith
byte-short (suc b) = omega arith

-- a class below 2 has no mark, any other one byte
pub mark-none : (c : ℕ) → c < 2 → mark c ≡ []
mark-none zero h = refl
mark-none (suc zero) h = refl
mark-none (suc (suc c)) h = absurd (omega arith)

pub mark-short : (c : ℕ) → length (mark c) ≤ 1
mark-short zero = omega arith
mark-short (suc zero) = omega arith
mark-short (suc (suc zero)) = omega arith
mark-short (suc (suc (suc zero))) = omega arith
mark-short (suc (suc (suc (suc c)))) = omega arith

pub mark-one : (c : ℕ) → 2 ≤ c → length (mark c) ≡ 1
mark-one zero h = absurd (omega arith)
mark-one (suc zero) h = absurd (omega arith)
mark-one (suc (suc zero)) h = refl
mark-one (suc (suc (suc zero))) h = refl
mark-one (suc (suc (suc (suc c)))) h = refl

pub side-short : (b c : ℕ) → length (side b c) ≤ 1
side-short b zero = byte-short b
side-short b (suc c) = mark-short (suc c)

pub star-short : (s : Bool) → length (star s) ≤ 1
star-short true = omega arith
star-short false = omega arith

pub run_short : (c n : ℕ) (s : Bool) → n < 2 ^ 64 → length (word (run c n s)) ≤ 23
run_short c n s h = simp length-append (omega (arith, mark-short c, star-short s, at_most 20 n (omega arith) (omega arith)))

-- a number of measures of the domain
pub measures-short : (n : ℕ) → n ≤ 1048576 → length (digits n) ≤ 7
measures-short n h = at_most 7 n (omega arith) (omega arith)

pub measured-run : (c n : ℕ) (s : Bool) → n ≤ 1048576 → length (word (run c n s)) ≤ 10
measured-run c n s h = simp length-append (omega (arith, mark-short c, star-short s, measures-short n h))

-- a run and a space, from its first byte to its last
pub ended-run : (c n : ℕ) (s : Bool) → mark c ++ (digits n ++ (mark c ++ (star s ++ bytes " "))) ≡ word (run c n s) ++ bytes " "
ended-run c n s = sym (simp append_assoc)

pub sign-one : (most n : ℕ) → length (word (sign_of most n)) ≡ 1
sign-one most n = split (leb n 4) (λ e. rw e) (λ e. split (leb n most) (λ f. rw (e, f)) (λ f. rw (e, f)))

pub sign-short : (n : ℕ) → n ≤ 31 → length (part (sign_of 31 n)) ≡ 1
sign-short n h = rw (le-leb n 31 h) (split (leb n 4) (λ e. rw e) (λ e. rw e))

pub sign-long : (n : ℕ) → 31 < n → length (part (sign_of 31 n)) ≡ 3
sign-long n h = rw (lt-leb n 4 (omega arith), lt-leb n 31 h)

pub in-parens : (n : ℕ) → n < 4294967296 → length (word (gap n)) ≤ 22
in-parens n h = simp length-append (omega (arith, at_most 20 n (omega arith) (omega arith)))
