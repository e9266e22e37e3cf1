-- The laws of A.5; and no text of more than 4,194,304 bytes passes 18.
-- Assumes nothing.
use Prim.Native.Nat.{ℕ, ◌*◌, ◌≤◌, ◌<◌}
use mathlib.Core.Path.{◌≡◌, refl, sym, ap, ◌∙◌}
use mathlib.Core.Bool.{Bool, true, false, not}
use mathlib.Core.Logic.Iff
use mathlib.Core.Logic.{◌↔◌, ◌⊎◌, ⊎_elim, ◌≢◌}
use mathlib.Core.List.{List, [], ◌∷◌}
use native.Mathlib.Omega.{arith}
use lib.Dec.{leb}
use lib.ListN.{length}
use borrow.Author.Tests.{leb-true, le-leb}
use Rattle.number.specs.Questions.{Question, question, first_no}
use Rattle.number.specs.declared.Written.{Written}
use Rattle.number.proofs.Split.{split}
use Rattle.rules.specs.Chart.{classes, active, Token, tokens}
use Rattle.rules.specs.Slices.{total}
use Rattle.rules.specs.Reduced.{pieces, reduced}
use Rattle.rules.specs.Texts.{text}
use Rattle.rules.proofs.Bound.{text-most}
use Rattle.rules.proofs.Cost.{total_runs}
use Rattle.rules.proofs.Demand.{exactly}
use Rattle.rules.proofs.Places.{no-active}
use Rattle.sn_to_standard.specs.Reader.{Reading, outside, inside, reading}
use Rattle.sn_to_standard.specs.Converted.{with_gaps, undecided, within_rules, decided, converted}
use Rattle.sn_to_standard.specs.Promises.{text_no, sn_to_standard_no, SnToStandard}
use Rattle.sn_to_standard.specs.Laws.{sn_text, standard_text, Passes18, Passes19, SomeChart, TwoCharts, Converts, Answers, Ordered}
use Rattle.sn_to_standard.specs.Laws.{writing, OwnText, SnToStandardLaws}
use Rattle.sn_to_standard.proofs.Charts.{Shows, chart-shows, gapped, gapped-shows, gapped-more}
use Rattle.sn_to_standard.proofs.Spread.{chart_of, chart_of_lem, chart-long, chart-tokens}
use Rattle.sn_to_standard.proofs.Decided.{flat-runs, says}
use Rattle.sn_to_standard.proofs.Exact.{reads-exactly}

-- ---- a chart's own text

module _ (m : List ℕ) {us : List Token} (s : Shows (tokens (classes m)) us) where
  own-text : sn_text m ≡ writing us
  unfolding text reduced
  own-text = ap writing (says s).drop

  own_read : reading (sn_text m) ≡ inside us
  own_read = (reads-exactly (sn_text m) us).1 (own-text, (says s).order)

  own-standard : undecided us ≡ false → standard_text m ≡ converted (sn_text m)
  unfolding text reduced tokens pieces converted
  own-standard h = let t = (says s).told h in rw (own_read, flat-runs (active (classes m)) t.1, t.0)

own : (m : List ℕ) → OwnText m
unfolding tokens
own m =
    let (us, s) = chart-shows m in
    record {
      read = (us, own_read m s);
      passes = λ h. rw (own_read m s, le-leb (total (with_gaps us)) 1048576 (omega (arith, (says s).most, total_runs (active (classes m)))));
    }

-- ---- charts of a text

same_total : (a b : List ℕ) → standard_text a ≡ standard_text b → total (tokens (classes a)) ≡ total (tokens (classes b))
unfolding tokens
same_total a b e = ⊎_elim (λ n. rw (no-active (classes a) n.0, no-active (classes b) n.1)) (λ s. simp total_runs s.long) ((exactly a b).detailed.0 e)

module _ {us : List Token} (o : (us ≡ []) ⊎ Ordered us) where
  made-text : (b : Bool) → sn_text (chart_of (gapped b us)) ≡ writing us
  made-text b = let s = gapped-shows b o in own-text (chart_of (gapped b us)) {us = us} (rw (chart-tokens s) s)

  some-chart : total (with_gaps us) ≤ 1048576 → SomeChart (writing us)
  some-chart h = record { m = chart_of (with_gaps us); chart = chart_of_lem (with_gaps us); few = rw (chart-long (with_gaps us)) h; has = made-text false }

  two-charts : undecided us ≡ true → TwoCharts (writing us)
  two-charts u =
      record {
        a = chart_of (gapped false us);
        b = chart_of (gapped true us);
        chart-a = chart_of_lem (gapped false us);
        chart-b = chart_of_lem (gapped true us);
        has-a = made-text false;
        has-b = made-text true;
        differ = λ e.
            let less = rw u at (gapped-more us) in
            omega (arith, same_total _ _ e, ap total (chart-tokens (gapped-shows false o)), ap total (chart-tokens (gapped-shows true o)));
      }

-- ---- texts

one : (t : List ℕ) → Passes19 t → (m : List ℕ) → sn_text m ≡ t → standard_text m ≡ converted t
one t p m e =
    let (us, s) = chart-shows m in
    split (undecided us) (λ u. absurd (omega (arith, rw (own_read m s, u) at (rw (← e) at p)))) (own-standard m s) ∙ ap converted e

converts : (t : List ℕ) → Passes18 t → Converts t
converts t p = by-reading (reading t) refl
  where
    by-reading : (r : Reading) → reading t ≡ r → Converts t
    by-reading outside e = absurd (omega (arith, rw e at p))
    by-reading (inside us) e =
        let (w, o) = (reads-exactly t us).0 e in
        record {
          some = split (leb (total (with_gaps us)) 1048576) (λ q. rw w (some-chart o (leb-true _ _ q))) (λ q. absurd (omega (arith, rw (e, q) at p)));
          one = one t;
          two = (
            λ h. split (undecided us) (λ u. rw w (two-charts o u)) (λ u. absurd (h (rw (e, u)))),
            λ c q. c.differ (one t q c.a c.has-a ∙ sym (one t q c.b c.has-b)),
          );
        }

-- ---- a call, by its questions 18, 19 and 4

record Asked (w d : Question) (c : Bool) : Type 0 where
  passed : first_no (w ∷ d ∷ question 4 c ∷ []) ≡ 0 → (first_no (w ∷ []) ≡ 0) × (first_no (d ∷ []) ≡ 0)
  stopped : first_no (w ∷ []) ≡ 0 → (first_no (w ∷ d ∷ question 4 c ∷ []) ≡ 19) ↔ ¬ (first_no (d ∷ []) ≡ 0)
  failed : ¬ (first_no (w ∷ []) ≡ 0) → first_no (w ∷ d ∷ []) ≡ 18

asked : (a b c : Bool) → Asked (question 18 a) (question 19 b) c
asked false b c = omega arith
asked true false c = omega arith
asked true true false = omega arith
asked true true true = omega arith

reading-asked : (r : Reading) (c : Bool) → Asked (within_rules r) (decided r) c
reading-asked outside c = asked false true c
reading-asked (inside us) c = asked (leb (total (with_gaps us)) 1048576) (not (undecided us)) c

-- an SN text has at most 4 bytes a measure
pub long-fails : (t : List ℕ) → 4194304 < length t → text_no t ≡ 18
unfolding text_no
long-fails t h =
    (reading-asked (reading t) true).failed
    (λ p.
    let c = (converts t p).some in
    let most : length (sn_text c.m) ≤ 4 * length c.m = text-most c.m _ in
    omega (arith, c.few, ap length c.has))

-- a text that is refused, and not by 18, is refused by 19
left : (a b : Bool) → let n = first_no (question 18 a ∷ question 19 b ∷ []) in n ≢ 0 → n ≢ 18 → 19 ≡ n
left true true z h = absurd (z refl)
left true false z h = refl
left false b z h = absurd (h refl)

left-read : (r : Reading) → let n = first_no (within_rules r ∷ decided r ∷ []) in n ≢ 0 → n ≢ 18 → 19 ≡ n
left-read outside = left false true
left-read (inside ts) = left (leb (total (with_gaps ts)) 1048576) (not (undecided ts))

pub undecided-left : (t : List ℕ) → text_no t ≢ 0 → text_no t ≢ 18 → 19 ≡ text_no t
unfolding text_no
undecided-left t = left-read (reading t)

answers : (t old new : List ℕ) (r : Written) → SnToStandard t old new r → Answers t old new r
unfolding sn_to_standard_no
answers t old new r c =
    let s = reading-asked (reading t) (leb (length (converted t)) (length old)) in
    rw (c.answer, c.bytes)
    (record {
      some = λ z. (converts t (s.passed z).0).some;
      right = λ z m e. rw (z, one t (s.passed z).1 m e) (refl, refl);
      exactly = λ p. Iff.trans (s.stopped p) (converts t p).two;
    })

pub laws : SnToStandardLaws
laws = record { exact = reads-exactly; converts = converts; own = own; answers = answers }
