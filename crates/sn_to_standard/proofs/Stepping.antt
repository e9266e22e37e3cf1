-- How the reading goes on where a run or a break is written; and that the text fails where none is.
-- Assumes nothing.
use Prim.Native.Nat.{ℕ, zero, suc, ◌+◌, ◌≤◌, ◌<◌}
use mathlib.Core.Path.{◌≡◌, refl, sym, ap, ◌∙◌}
use mathlib.Core.Bool.{Bool, false, ◌||◌, and-false, or_assoc, false≢true}
use mathlib.Core.List.{List, [], ◌∷◌, ◌++◌, append_assoc, append-nil, append_cancel_left}
use native.Mathlib.Omega.{arith}
use lib.Dec.{leb, eqb}
use borrow.Author.Tests.{eqb-true, eqb-false, le-leb, lt-leb}
use Rattle.number.specs.Digits.{digits}
use Rattle.number.specs.Questions.{first_no}
use Rattle.number.proofs.Split.{split}
use Rattle.rules.specs.Chart.{Token, token, class, len}
use Rattle.rules.specs.Slices.{total}
use Rattle.rules.specs.Reduced.{run, gap}
use Rattle.rules.specs.Texts.{mark, word}
use Rattle.rules.proofs.Cost.{total-append}
use Rattle.rules.proofs.Words.{word-solid}
use Rattle.sn_to_standard.specs.Reader.{words, first_class, shown, is_run, is_break, Reading, outside, inside, before, expect_run, after_run}
use Rattle.sn_to_standard.specs.Converted.{one_class, two_classes, gap_behind, with_gaps, undecided_behind, undecided, within_rules, decided}
use Rattle.sn_to_standard.specs.Laws.{Run}
use Rattle.sn_to_standard.specs.Items.{rest_no, Fails, more_measures, Stops, NumberIs}
use Rattle.sn_to_standard.specs.Descents.{after_bytes, opens}
use Rattle.sn_to_standard.proofs.Shown.{words_more, words_last, Parted, after_words, first_word, first-class}
use Rattle.sn_to_standard.proofs.Shown.{shown-run, shown-break, run-word, break-word, run_is}
use Rattle.sn_to_standard.proofs.Numbers.{one_number}

-- ---- the text's number behind one more token

pub rest-first : (c m : ℕ) (u : Bool) (t : Token) (r : Reading)
    → rest_no c m u (before t r) ≡ rest_no (class t) (more_measures c m t) (u || two_classes (token c 1 false) t) r
rest-first c m u (token d n s) outside = refl
rest-first c m u (token d n s) (inside ts) =
    let g = total (gap_behind one_class (token c 1 false) (token d n s ∷ [])) in
    let b = gap_behind one_class (token d 1 false) ts in
    let sum : m + (g + (n + total (b ++ with_gaps ts))) ≡ m + (g + n) + (total b + total (with_gaps ts)) = omega (arith, total-append b (with_gaps ts)) in
    rw ((same ts).0, (same ts).1, sum, ← (or_assoc u (two_classes (token c 1 false) (token d n s)) (undecided_behind (token d 1 false) ts || undecided ts)))
  where
    -- only the class of the token before tells
    same : (ts : List Token)
        → (gap_behind one_class (token d n s) ts ≡ gap_behind one_class (token d 1 false) ts)
        × (undecided_behind (token d n s) ts ≡ undecided_behind (token d 1 false) ts)
    same [] = (refl, refl)
    same (u ∷ us) = (refl, refl)

pub rest-many : (c m : ℕ) (u : Bool) (r : Reading) → 1048576 < m → rest_no c m u r ≡ 18
rest-many c m u outside h = refl
rest-many c m u (inside ts) h = rw (lt-leb (m + (total (gap_behind one_class (token c 1 false) ts) + total (with_gaps ts))) 1048576 (omega arith))

fails-outside : Fails outside
fails-outside c m u = refl

-- no token of at most 1,048,576 measures
fails-long : (t : Token) (r : Reading) → (len t ≤ 1048576 → ⊥) → Fails (before t r)
fails-long t r h c m u = rest-first c m u t r ∙ rest-many (class t) (more_measures c m t) (u || two_classes (token c 1 false) t) r (omega arith)

-- ---- a run

-- what holds of a text outside the rules, and of one that begins with a run, holds where a run is expected
by-run : (P : Reading → Type 0) (xs : List ℕ) → P outside
    → ((c n : ℕ) (rest : List ℕ) → Run c n → Parted rest → xs ≡ word (run c n false) ++ rest → P (before (token c n false) (after_run (after_words rest))))
    → P (expect_run (words xs))
by-run P xs o r =
    let f = first_word xs in
    rw f.split-as
    (split (is_run (shown f.w))
    (λ e. let q = run-word f.w e in rw (e, q.token-of) (r q.c q.n f.rest q.run_of f.parted (rw (← q.written) f.whole)))
    (λ e. rw e o))

pub expect-fails : (xs : List ℕ) → ((c n : ℕ) (rest : List ℕ) → Run c n → n ≤ 1048576 → Parted rest → ¬ (xs ≡ word (run c n false) ++ rest))
    → Fails (expect_run (words xs))
expect-fails xs f = by-run Fails xs fails-outside (λ c n rest r p e. fails-long (token c n false) (after_run (after_words rest)) (λ l. f c n rest r l p e))

pub parted-stops : (xs : List ℕ) → Parted xs → Stops xs
parted-stops [] p = tt
parted-stops (x ∷ xs) p = rw p

mark-stops : (c : ℕ) (xs : List ℕ) → 1 ≤ c → (c ≡ 1 → Stops xs) → Stops (mark c ++ xs)
mark-stops zero xs h s = absurd (omega arith)
mark-stops (suc zero) xs h s = s refl
mark-stops (suc (suc zero)) xs h s = refl
mark-stops (suc (suc (suc zero))) xs h s = refl
mark-stops (suc (suc (suc (suc c)))) xs h s = refl

-- behind its mark a run's word has its number
pub in-run : (k c n : ℕ) (ys zs : List ℕ) {xs : List ℕ} → (1 ≤ first_class xs → first_class xs ≡ k) → xs ≡ mark k ++ ys
    → Run c n → (c ≡ 1 → Stops zs) → xs ≡ word (run c n false) ++ zs → NumberIs ys (mark k ++ zs) n
in-run k c n ys zs {xs} f e r s w =
    let h : first_class xs ≡ c = rw w (first-class c n zs r) in
    let g : c ≡ k = sym h ∙ f (omega (arith, r.class-least)) in
    let v : word (run c n false) ++ zs ≡ mark k ++ (digits n ++ (mark k ++ zs)) = rw (← g) (simp append_assoc) in
    record { written = append_cancel_left (mark k) ys (digits n ++ (mark k ++ zs)) (sym e ∙ w ∙ v); stops = rw g at (mark-stops c zs r.class-least s) }

-- a run's word, and what stands behind it
pub run_step : (c n : ℕ) (zs : List ℕ) → Run c n → (c ≡ 1 → Stops zs)
    → expect_run (words (word (run c n false) ++ zs)) ≡ before (token c n false) (after_bytes zs)
run_step c n [] r s = rw (append-nil (word (run c n false)), words_last (word (run c n false)) (word-solid (run c n false)), shown-run c n r, run_is c n r)
run_step c n (x ∷ zs) r s =
    split (eqb x 32)
    (λ e. rw (e, eqb-true x 32 e, words_more (word (run c n false)) zs (word-solid (run c n false)), shown-run c n r, run_is c n r))
    (λ e. rw e (by-run (λ q. q ≡ outside) (word (run c n false) ++ (x ∷ zs)) refl (λ d m rest q p w. absurd (joined e d m rest q p w))))
  where
    joined : eqb x 32 ≡ false → (d m : ℕ) (rest : List ℕ) → Run d m → Parted rest → ¬ (word (run c n false) ++ (x ∷ zs) ≡ word (run d m false) ++ rest)
    joined e d m rest q p w =
        let ys = digits n ++ (mark c ++ (x ∷ zs)) in
        let v : word (run c n false) ++ (x ∷ zs) ≡ mark c ++ ys = simp append_assoc in
        let i = in-run c d m ys rest (λ h. first-class c n (x ∷ zs) r) v q (λ h. parted-stops rest p) w in
        let b : NumberIs ys (mark c ++ (x ∷ zs)) n = record { written = refl; stops = mark-stops c (x ∷ zs) r.class-least s } in
        eqb-false x 32 e (rw (append_cancel_left (mark c) rest (x ∷ zs) (one_number i b).1) at p)

-- ---- a break

pub break-step : (k : ℕ) (ys : List ℕ) → 2 ≤ k → after_run (words (word (gap k) ++ (32 ∷ ys))) ≡ before (token 0 k false) (expect_run (words ys))
break-step k ys h = rw (words_more (word (gap k)) ys (word-solid (gap k)), shown-break k, le-leb 2 k h)

-- "(" and no break with a space behind it
pub after-fails : (xs : List ℕ) → first_class xs ≡ 0 → ((k : ℕ) (rest : List ℕ) → 2 ≤ k → k ≤ 1048576 → ¬ (xs ≡ word (gap k) ++ (32 ∷ rest)))
    → Fails (after_run (words xs))
after-fails xs z f =
    let i = first_word xs in
    rw i.split-as
    (split (is_run (shown i.w))
    (λ e.
    let q = run-word i.w e in
    let w : xs ≡ word (run q.c q.n false) ++ i.rest = rw (← q.written) i.whole in
    let c : 0 ≡ q.c = sym z ∙ ap first_class w ∙ first-class q.c q.n i.rest q.run_of in
    absurd (omega (arith, q.run_of.class-least)))
    (λ e. rw e
    (split (is_break (shown i.w))
    (λ b.
    let q = break-word i.w b in
    rw (b, q.token-of) (behind q.k q.long i.rest i.parted (i.whole ∙ ap (λ (w : List ℕ). w ++ i.rest) q.written)))
    (λ b. rw b fails-outside))))
  where
    behind : (k : ℕ) → 2 ≤ k → (rest : List ℕ) → Parted rest → xs ≡ word (gap k) ++ rest → Fails (before (token 0 k false) (expect_run (after_words rest)))
    behind k h [] p w = fails-outside
    behind k h (x ∷ rest) p w = fails-long (token 0 k false) (expect_run (words rest)) (λ l. f k rest h l (rw p at w))

-- ---- no break

pub plain_step : (xs : List ℕ) → opens xs ≡ false → after_run (words xs) ≡ expect_run (words xs)
plain_step xs h =
    let f = first_word xs in
    rw f.split-as
    (split (is_break (shown f.w))
    (λ e. absurd (false≢true (sym h ∙ rw (f.whole, (break-word f.w e).written))))
    (λ e. rw e))

-- ---- the whole text

pub whole-no : (r : Reading) → rest_no 0 0 false r ≡ first_no (within_rules r ∷ decided r ∷ [])
whole-no outside = refl
whole-no (inside []) = refl
whole-no (inside (t ∷ ts)) =
    let sum : 0 + (0 + total (with_gaps (t ∷ ts))) ≡ total (with_gaps (t ∷ ts)) = omega arith in
    rw (and-false (leb 1 (class t)), sum)
    (split (leb (total (with_gaps (t ∷ ts))) 1048576)
    (λ e. rw e (split (undecided (t ∷ ts)) (λ q. rw q) (λ q. rw q)))
    (λ e. rw e))
