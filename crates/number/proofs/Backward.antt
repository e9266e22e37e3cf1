-- Digits written from the last to the first, as lists. Nothing here speaks of code.
-- Assumes nothing.
use Prim.Native.Nat.{ℕ, ◌+◌, ◌-◌, ◌/◌, ◌%◌, ◌≤◌, ◌<◌}
use mathlib.Core.Path.{◌≡◌, refl, sym, ap, ◌∙◌}
use mathlib.Core.List.{List, [], ◌∷◌, ◌++◌, append_assoc, append-nil}
use native.Mathlib.Omega.{arith}
use lib.ListN.{length, length-append, take, drop, set}
use lib.Seq.{sets, sets-eq, length-sets, length-take-le, drop_at}
use lib.Dec.{ltb}
use borrow.Author.Tests.{ltb-true, ltb-false}
use Rattle.number.specs.Digits.{digits, last_digits}
use Rattle.number.specs.Questions.{filled}
use Rattle.number.proofs.Digits.{digits-one, digits_more, length_some, without, digits_last, length_without, length_more}
use Rattle.number.proofs.Split.{split}

-- stores before what is written already
back : (out : List ℕ) (j : ℕ) (xs : List ℕ) → j + length xs ≤ length out → drop j (sets out j xs) ≡ xs ++ drop (j + length xs) out
back out j xs h =
    rw (sets-eq xs out j h, append_assoc (take j out) xs (drop (j + length xs) out))
    (drop_at (take j out) (xs ++ drop (j + length xs) out) j (length-take-le j out (omega arith)))

-- one store at the start
pub first-set : (out : List ℕ) (d : ℕ) → 0 < length out → set out 0 d ≡ filled out (d ∷ [])
first-set out d h = back out 0 (d ∷ []) h

module _ (n : ℕ) (old : List ℕ) where
  -- the digits `ds` after those of `rest` are written, and places before k are still to be written
  pub record Going (out : List ℕ) (k rest : ℕ) : Type 0 where
    pub ds : List ℕ
    pub whole : digits n ≡ digits rest ++ ds
    pub place : k ≡ length (digits rest)
    pub bytes : drop k out ≡ ds ++ drop (length (digits n)) old
    pub long : length out ≡ length old
    pub some : 1 ≤ k
    pub within : k ≤ length old

  pub starts : length (digits n) ≤ length old → Going old (length (digits n)) n
  starts h = record { ds = []; whole = sym (append-nil (digits n)); place = refl; bytes = refl; long = refl; some = length_some n; within = h }

  module _ (out : List ℕ) (k rest : ℕ) (g : Going out k rest) where
    -- some of the last digits of `rest`, xs, and those of `next` before them
    step : (next : ℕ) (xs : List ℕ) → digits rest ≡ digits next ++ xs → Going (sets out (k - length xs) xs) (k - length xs) next
    step next xs e =
        let j = length (digits next) in
        let l : k ≡ j + length xs = g.place ∙ rw e (length-append (digits next) xs) in
        let b : k - length xs ≡ j = omega arith in
        let s : drop j (sets out j xs) ≡ xs ++ drop k out = rw l (back out j xs (omega (arith, g.long, g.within))) in
        rw b
        (record {
          ds = xs ++ g.ds;
          whole = g.whole ∙ rw (e, append_assoc);
          place = refl;
          bytes = s ∙ rw (g.bytes, append_assoc);
          long = length-sets out j xs ∙ g.long;
          some = length_some next;
          within = omega (arith, g.within);
        })

    pub step-one : 10 ≤ rest → Going (set out (k - 1) (48 + rest % 10)) (k - 1) (rest / 10)
    step-one h = step (rest / 10) ((48 + rest % 10) ∷ []) (digits_more rest h)

    pub step-four : 10000 ≤ rest → (xs : List ℕ) → xs ≡ last_digits 4 rest → Going (sets out (k - 4) xs) (k - 4) (rest / 10000)
    step-four h xs last =
        let e : rest / 10000 ≡ without 4 rest = omega arith in
        rw (last, e) (step (without 4 rest) (last_digits 4 rest) (digits_last 4 rest (omega arith)))

    -- four more digits have room
    pub four-more : 10000 ≤ rest → 4 ≤ k
    four-more h = omega (arith, g.place, length_without 4 rest (omega arith))

    -- the digits of `rest` are all that is missing
    pub finished : filled out (digits rest) ≡ filled old (digits n)
    finished = rw (← g.place, g.bytes, g.whole, append_assoc)

    pub finished-one : rest < 10 → set out (k - 1) (48 + rest) ≡ filled old (digits n)
    finished-one h =
        let e : k ≡ 1 = g.place ∙ rw (digits-one rest h) in
        rw e (first-set out (48 + rest) (omega (arith, g.long, g.within)) ∙ ap (filled out) (sym (digits-one rest h)) ∙ finished)

  -- the same down to place 0, where all is written
  pub record Down (out : List ℕ) (k rest : ℕ) : Type 0 where
    pub going : 1 ≤ k → Going out k rest
    pub done : k ≡ 0 → out ≡ filled old (digits n)

  pub down-starts : length (digits n) ≤ length old → Down old (length (digits n)) n
  down-starts h = record { going = λ s. starts h; done = λ e. absurd (omega (arith, length_some n)) }

  module _ (out : List ℕ) (k rest : ℕ) (d : Down out k rest) (s : 1 ≤ k) where
    g : Going out k rest
    g = d.going s

    long-rest : 2 ≤ k → 10 ≤ rest
    long-rest h = split (ltb rest 10) (λ w. absurd (omega (arith, g.place, ap length (digits-one rest (ltb-true _ _ w))))) (λ w. omega (arith, w, ltb-false))

    short-rest : k ≡ 1 → rest < 10
    short-rest h =
        split (ltb rest 10) (λ w. ltb-true _ _ w)
        (λ w. let m : 10 ≤ rest = omega (arith, w, ltb-false) in absurd (omega (arith, g.place, length_more rest m, length_some (rest / 10))))

    pub down-step : Down (set out (k - 1) (48 + rest % 10)) (k - 1) (rest / 10)
    down-step =
        record {
          going = λ h. step-one out k rest g (long-rest (omega arith));
          done = λ e.
              let one : k ≡ 1 = omega arith in
              let r : rest % 10 ≡ rest = omega (arith, short-rest one) in
              rw r (finished-one out k rest g (short-rest one));
        }
