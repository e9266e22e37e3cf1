-- The reader's two functions, step by step, and the descents from the text's start to its end.
-- Assumes nothing.
use Prim.Native.Nat.{ℕ, ◌+◌, ◌*◌, ◌/◌, ◌%◌, ◌≤◌, ◌<◌}
use mathlib.Core.Path.{◌≡◌, refl, sym, ap, ◌∙◌}
use mathlib.Core.Bool.{Bool, true, false, cond, ◌||◌, or-false, false≢true}
use mathlib.Core.Logic.{◌≢◌, inl, inr}
use mathlib.Core.List.{List, [], ◌∷◌}
use native.Mathlib.Omega.{arith}
use lib.Dec.{eqb}
use lib.ListN.{length, drop, get_or, drop_of_length-le, length-drop}
use borrow.Author.Tests.{eqb-true, ne_eqb, le-leb}
use Rattle.rules.specs.Chart.{token}
use Rattle.sn_to_standard.specs.Reader.{words, expect_run, reading}
use Rattle.sn_to_standard.specs.Converted.{two_classes}
use Rattle.sn_to_standard.specs.Promises.{text_no}
use Rattle.sn_to_standard.specs.Items.{rest_no, more_measures, SomeRun, SomeBreak, BreakRead}
use Rattle.sn_to_standard.specs.Descents.{after_bytes, expect_no, after_no, opens, StandsIn, Descended}
use Rattle.sn_to_standard.specs.declared.item.Item.{Item}
use Rattle.sn_to_standard.proofs.Stepping.{rest-first, rest-many, run_step, break-step, plain_step, whole-no}
use Rattle.sn_to_standard.proofs.Items.{byte-here, begins}

-- a space and "(" stand here
pub record Opened (text : List ℕ) (at c m : ℕ) : Type 0 where
  pub stands : StandsIn text at c m
  pub written : drop at text ≡ 32 ∷ 40 ∷ drop (at + 2) text

-- from a place to the next, u if a gap before it was undecided
module _ {text : List ℕ} {at c m : ℕ} (s : StandsIn text at c m) (u : Bool) where
  -- ---- a run is expected

  module _ {r : Item} (q : SomeRun text at r) {more : ℕ} (e : more ≡ more_measures c m (token r.class r.length false)) where
    pub run-number : {v : Bool} → v ≡ (u || two_classes (token c 1 false) (token r.class r.length false))
        → expect_no text at c m u ≡ after_no text r.next r.class more v
    run-number f =
        rw (e, f, q.written, run_step r.class r.length (drop r.next text) q.run_of q.stops)
        (rest-first c m u (token r.class r.length false) (after_bytes (drop r.next text)))

    pub run-many : 1048576 < more → expect_no text at c m u ≡ 18
    run-many h = run-number refl ∙ rest-many r.class more _ (after_bytes (drop r.next text)) h

  -- ---- what may follow a run is expected

  pub ended : at ≡ length text → after_no text at c m u ≡ cond u 19 0
  ended e =
      let z : m + (0 + 0) ≡ m = omega arith in
      rw (drop_of_length-le text {i = at} (omega arith)) (rw (z, le-leb m 1048576 s.few, or-false u))

  module _ (n : at ≢ length text) where
    here : drop at text ≡ get_or text at 0 ∷ drop (at + 1) text
    here = byte-here text at (omega (arith, s.within))

    pub no-space : get_or text at 0 ≢ 32 → after_no text at c m u ≡ 18
    no-space e = rw (here, ne_eqb (get_or text at 0) 32 e)

    module _ (x : get_or text at 0 ≡ 32) where
      spaced : drop at text ≡ 32 ∷ drop (at + 1) text
      spaced = here ∙ rw x

      pub run-next : opens (drop (at + 1) text) ≡ false → after_no text at c m u ≡ expect_no text (at + 1) c m u
      run-next o = rw spaced (ap (rest_no c m u) (plain_step (drop (at + 1) text) o))

      pub opened : opens (drop (at + 1) text) ≡ true → Opened text at c m
      opened o = record { stands = s; written = spaced ∙ ap {B = List ℕ} (λ r. 32 ∷ r) (go (drop (at + 1) text) refl o) }
        where
          go : (xs : List ℕ) → drop (at + 1) text ≡ xs → opens xs ≡ true → xs ≡ 40 ∷ drop (at + 2) text
          go [] d q = absurd (false≢true q)
          go (y ∷ ys) d q =
              let two : at + 1 + 1 ≡ at + 2 = omega arith in
              rw (eqb-true y 40 q, ← two, (begins text (at + 1) y ys d).behind)

module _ {text : List ℕ} {at c m : ℕ} (o : Opened text at c m) where
  pub room : at + 2 ≤ length text
  room = omega (arith, ap length o.written, length-drop at text)

  module _ (u : Bool) {r : Item} where
    pub break-none : BreakRead text (at + 2) r → r.length ≡ 0 → after_no text at c m u ≡ 18
    break-none q z = rw o.written (q.none z c m u)

    pub break-number : SomeBreak text (at + 2) r → after_no text at c m u ≡ expect_no text r.next 0 (m + r.length) u
    break-number b =
        let z : m + (0 + r.length) ≡ m + r.length = omega arith in
        ap (λ (xs : List ℕ). rest_no c m u (after_bytes xs)) (o.written ∙ ap {B = List ℕ} (λ xs. 32 ∷ xs) b.written)
        ∙ ap (rest_no c m u) (break-step r.length (drop r.next text) b.long)
        ∙ rest-first c m u (token 0 r.length false) (expect_run (words (drop r.next text)))
        ∙ rw (z, or-false u)

    pub break-many : SomeBreak text (at + 2) r → 1048576 < m + r.length → after_no text at c m u ≡ 18
    break-many b h = break-number b ∙ rest-many 0 (m + r.length) u (expect_run (words (drop r.next text))) h

-- ---- what a call further on answers

pub passed_on : {text : List ℕ} {n k from to b d r : ℕ} → n ≡ k → from < to → Descended text k to d r → Descended text n from b r
passed_on e h (inl g) = inl (e ∙ g.0, g.1)
passed_on e h (inr s) =
    inr
    (record {
      at = s.at;
      class = s.class;
      measures = s.measures;
      undecided = s.undecided;
      place = s.place;
      stands = s.stands;
      number = e ∙ s.number;
      least = omega (arith, s.least);
      further = λ z. omega (arith, s.least);
    })

-- ---- from descent to descent

bit : (u : Bool) → (cond u 1 0 ≤ 1) × (eqb (cond u 1 0) 1 ≡ u)
bit true = (omega arith, refl)
bit false = (omega arith, refl)

-- where a descent that began at `from` stopped, by the number r that it answered, in a text with the number `no`
pub record Unpacked (text : List ℕ) (no from r : ℕ) : Type 0 where
  pub stands : StandsIn text (r / 33554432) (r / 4194304 % 8) (r % 2097152)
  pub number : expect_no text (r / 33554432) (r / 4194304 % 8) (r % 2097152) (eqb (r / 2097152 % 2) 1) ≡ no
  pub further : from < r / 33554432

module _ {text : List ℕ} {n no from r : ℕ} (e : n ≡ no) where
  pub told : Descended text n from 64 r → r < 20 → r ≡ no
  told (inl g) h = sym g.0 ∙ e
  told (inr s) h = absurd (omega (arith, s.place, s.further (omega arith)))

  pub unpacked : Descended text n from 64 r → 20 ≤ r → Unpacked text no from r
  unpacked (inl g) h = absurd (omega arith)
  unpacked (inr s) h =
      let b = bit s.undecided in
      let a : r / 33554432 ≡ s.at = omega (arith, s.place, s.stands, b.0) in
      let k : r / 4194304 ≡ s.at * 8 + s.class = omega (arith, s.place, s.stands, b.0) in
      let l : r / 2097152 ≡ (s.at * 8 + s.class) * 2 + cond s.undecided 1 0 = omega (arith, s.place, s.stands) in
      let c : r / 4194304 % 8 ≡ s.class = rw k (omega (arith, s.stands)) in
      let u : r / 2097152 % 2 ≡ cond s.undecided 1 0 = rw l (omega (arith, b.0)) in
      let m : r % 2097152 ≡ s.measures = omega (arith, s.place, s.stands) in
      record { stands = rw (a, c, m) s.stands; number = rw (a, c, m, u, b.1) (sym s.number ∙ e); further = rw a (s.further (omega arith)) }

-- ---- the whole text

pub whole : (text : List ℕ) → length text ≢ 0 → expect_no text 0 0 0 false ≡ text_no text
unfolding text_no reading
whole [] h = absurd (h refl)
whole (x ∷ xs) h = whole-no (expect_run (words (x ∷ xs)))

pub empty-no : (text : List ℕ) → length text ≡ 0 → 0 ≡ text_no text
unfolding text_no reading
empty-no [] h = refl
empty-no (x ∷ xs) h = absurd (omega arith)
