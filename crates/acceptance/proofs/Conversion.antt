-- A.5 holds: what the laws of the converter say of a call that keeps its promise.
-- Assumes nothing.
use Prim.Native.Nat.{ℕ, ◌≤◌}
use mathlib.Core.Path.{◌≡◌, refl, ap}
use mathlib.Core.Bool.{Bool, true, false, not}
use mathlib.Core.Logic.{◌↔◌, ◌≢◌}
use mathlib.Core.List.{List, [], ◌∷◌}
use native.Mathlib.Omega.{arith}
use lib.Dec.{leb}
use lib.ListN.{length}
use borrow.Author.Tests.{leb-true, le-leb}
use Rattle.number.specs.Questions.{question, first_no}
use Rattle.number.specs.declared.Written.{Written}
use Rattle.number.proofs.Split.{split}
use Rattle.rules.specs.Chart.{Token}
use Rattle.rules.specs.Slices.{total}
use Rattle.sn_to_standard.specs.Reader.{Reading, outside, inside, reading}
use Rattle.sn_to_standard.specs.Converted.{with_gaps, undecided, within_rules, decided, converted}
use Rattle.sn_to_standard.specs.Promises.{sn_to_standard_no}
use Rattle.sn_to_standard.specs.Laws.{Passes18}
use Rattle.sn_to_standard.proofs.Laws.{laws}
use Rattle.acceptance.specs.Conversion.{WithinRules, Conversion}

-- the call's number by what is read, question 4 being answered with b
abbrev no : Bool → Reading → ℕ
no b r = first_no (within_rules r ∷ decided r ∷ question 4 b ∷ [])

-- 18 is passed exactly where the number is not 18
passed : (b : Bool) (r : Reading) → (no b r ≢ 18) ↔ (first_no (within_rules r ∷ []) ≡ 0)
passed b outside = (λ h. absurd (h refl), λ e. absurd (omega arith))
passed b (inside ts) =
    split (leb (total (with_gaps ts)) 1048576)
    (λ e. rw e (λ h. refl, λ h. later (undecided ts) b))
    (λ e. rw e (λ h. absurd (h refl), λ h. absurd (omega arith)))
  where
    later : (u b : Bool) → first_no (question 19 (not u) ∷ question 4 b ∷ []) ≢ 18
    later true b h = omega arith
    later false true h = omega arith
    later false false h = omega arith

-- a text that passes 18 is the writing of what is read, and only such a text does
within : (t : List ℕ) → Passes18 t ↔ WithinRules t
within t = (λ p. by-reading (reading t) refl p, passes)
  where
    by-reading : (r : Reading) → reading t ≡ r → first_no (within_rules r ∷ []) ≡ 0 → WithinRules t
    by-reading outside e p = absurd (omega arith)
    by-reading (inside ts) e p =
        let s = (laws.exact t ts).0 e in
        record { items = ts; written = s.0; ordered = s.1; few = few-enough ts p }
      where
        few-enough : (ts : List Token) → first_no (within_rules (inside ts) ∷ []) ≡ 0 → total (with_gaps ts) ≤ 1048576
        few-enough ts = split (leb (total (with_gaps ts)) 1048576) (λ q h. leb-true (total (with_gaps ts)) 1048576 q) (λ q. rw q (λ h. absurd (omega arith)))

    passes : WithinRules t → Passes18 t
    passes w = rw ((laws.exact t w.items).1 (w.written, w.ordered)) (rw (le-leb (total (with_gaps w.items)) 1048576 w.few))

pub conversion : Conversion
unfolding sn_to_standard_no
conversion =
    record {
      answered = λ t old new r p.
          let b = leb (length (converted t)) (length old) in
          let n : r.refused ≡ no b (reading t) = ap (λ (w : Written). w.refused) p.answer in
          let q : (r.refused ≢ 18) ↔ Passes18 t = rw n (passed b (reading t)) in
          let a = laws.answers t old new r p in
          record {
            within = (λ h. (within t).0 (q.0 h), λ w. q.1 ((within t).1 w));
            some = a.some;
            one = a.right;
            undecided = λ h. a.exactly (q.0 h);
            own = λ m e l. q.1 (rw e at ((laws.own m).passes l));
          };
    }
