-- Questions put to a call, first no first; and what a call that writes one text leaves.
-- Assumes nothing.
use Rattle.std.specs.Prelude.{ℕ, zero, suc, ◌≡◌, Bool, cond, List, [], ◌∷◌, ◌++◌, leb, length, drop}
use Rattle.number.specs.declared.Written.{Written}

-- a question: its number, and whether the answer is yes
pub data Question : Type 0 where
  question : ℕ → Bool → Question

-- the number of the first question whose answer is no; 0 if there is none
abbrev pub first_no : List Question → ℕ
first_no [] = 0
first_no (question n holds ∷ qs) = cond holds (first_no qs) n

-- by the number that a call gives back: `a` where it is 0 and the call accepted, else `b`
abbrev pub accepted : {A : Type 0} → ℕ → A → A → A
accepted zero a b = a
accepted (suc n) a b = b

-- a lent slice once xs is written at its start: later places as they were
abbrev pub filled : {A : Type 0} → List A → List A → List A
filled old xs = xs ++ drop (length xs) old

-- Is the text slice as long as all the text due? 4
abbrev pub room_for : List ℕ → List ℕ → Question
room_for text old = question 4 (leb (length text) (length old))

-- A call that writes one text, with the number `no` of its first no, or 0: it puts the text at the slice's start and
-- answers its length; refused, it answers only the number and changes nothing
pub record OneText (no : ℕ) (text old new : List ℕ) (r : Written) : Type 0 where
  pub answer : r ≡ record { refused = no; length = accepted no (length text) 0 }
  pub bytes : new ≡ accepted no (filled old text) old
