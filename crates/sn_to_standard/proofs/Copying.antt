-- The copy of a decided text is its standard text.
-- Assumes nothing.
use Prim.Native.Nat.{ℕ, zero, suc, ◌≤◌}
use mathlib.Core.Path.{◌≡◌, refl, sym, ap, ◌∙◌}
use mathlib.Core.Bool.{true, false, and-eq-true_iff}
use mathlib.Core.Logic.{◌≢◌, ◌⊎◌, inl, inr}
use mathlib.Core.List.{List, [], ◌∷◌, ◌++◌, map, append_assoc, append-nil}
use native.Mathlib.Omega.{arith}
use lib.Dec.{leb, ltb}
use lib.ListN.{get_or}
use borrow.Author.Tests.{leb-true, ne_eqb, le-ltb}
use Rattle.number.specs.Digits.{digits, is_digit}
use Rattle.number.proofs.Split.{split}
use Rattle.number.proofs.Each.{none, ◌&◌, each_append, each_map, All, Some}
use Rattle.number.proofs.Read.{digits-all}
use Rattle.rules.specs.Chart.{Token, token}
use Rattle.rules.specs.Reduced.{run, gap, item}
use Rattle.rules.specs.Texts.{mark, word, part, strung, render}
use Rattle.rules.proofs.Words.{Fine, word_some}
use Rattle.sn_to_standard.specs.Reader.{inside, reading}
use Rattle.sn_to_standard.specs.Converted.{one_class, gap_behind, with_gaps, undecided_behind, undecided, piece, converted_of, converted}
use Rattle.sn_to_standard.specs.Copied.{shown_bytes, kept, copied}
use Rattle.sn_to_standard.specs.Laws.{Run, Ordered, last, next, over, writing}
use Rattle.sn_to_standard.proofs.Numbers.{digit-bounds}
use Rattle.sn_to_standard.proofs.Shown.{run-item}
use Rattle.sn_to_standard.proofs.Exact.{read-shape}
use Rattle.sn_to_standard.proofs.Charts.{Headed, headed, order-head, both_false, one-class-yes, two-classes-no, gaps-over}
use Rattle.sn_to_standard.proofs.Blocks.{kept_append}

-- the copy of a text that follows the byte p
abbrev copy : ℕ → List ℕ → List ℕ
copy p xs = kept (shown_bytes p xs)

-- ---- a run

-- digits and marks stand above the space, "(" and ")"
abbrev High : List ℕ → Type 0
High = All (leb 48) true

-- the last byte, or p
abbrev last_of : ℕ → List ℕ → ℕ
last_of p [] = p
last_of p (x ∷ xs) = last_of x xs

copy-high : (p : ℕ) (xs rest : List ℕ) → High xs → copy p (xs ++ rest) ≡ kept xs ++ copy (last_of p xs) rest
copy-high p [] rest h = refl
copy-high p (x ∷ xs) rest (h & hs) =
    rw (ne_eqb x 32 (omega (arith, leb-true))) (split (ltb 57 x) (λ e. rw e (copy-high x xs rest hs)) (λ e. rw (e, copy-high x xs rest hs)))

high-last : (p : ℕ) (xs : List ℕ) → Some xs → High xs → 48 ≤ last_of p xs
high-last p [] s h = absurd s
high-last p (x ∷ []) s (h & hs) = leb-true 48 x h
high-last p (x ∷ y ∷ xs) s (h & hs) = high-last x (y ∷ xs) tt hs

high-first : (xs rest : List ℕ) → Some xs → High xs → 48 ≤ get_or (xs ++ rest) 0 40
high-first [] rest s h = absurd s
high-first (x ∷ xs) rest s (h & hs) = leb-true 48 x h

kept-digits : {ds : List ℕ} → All is_digit true ds → kept ds ≡ ds
kept-digits none = refl
kept-digits (◌&◌ {x = x} h hs) = rw (le-ltb 57 x (digit-bounds x h).1, kept-digits hs)

high-digits : (n : ℕ) → High (digits n)
high-digits n = each_map (λ x h. ((and-eq-true_iff (leb 48 x) (leb x 57)).0 h).0) (digits-all n)

mark-bytes : (c : ℕ) → High (mark c) × (kept (mark c) ≡ [])
mark-bytes zero = (none, refl)
mark-bytes (suc zero) = (none, refl)
mark-bytes (suc (suc zero)) = (refl & none, refl)
mark-bytes (suc (suc (suc zero))) = (refl & none, refl)
mark-bytes (suc (suc (suc (suc c)))) = (refl & none, refl)

fine : (c n : ℕ) → Run c n → Fine (run c n false)
fine zero n r = absurd (omega (arith, r.class-least))
fine (suc c) n r = omega (arith, r.class-most)

module _ (c n : ℕ) (r : Run c n) where
  abbrev w : List ℕ
  w = word (run c n false)

  high : High w
  high = each_append (mark-bytes c).0 (each_append (high-digits n) (each_append (mark-bytes c).0 none))

  kept_run : kept w ≡ digits n
  kept_run = simp (append-nil, kept_append, (mark-bytes c).1, kept-digits (digits-all n))

  -- its digits are copied; behind it stands no ")", and it begins with no "("
  copy_run : (p : ℕ) (rest : List ℕ) → copy p (w ++ rest) ≡ digits n ++ copy (last_of p w) rest
  copy_run p rest = rw (copy-high p w rest high, kept_run)

  run-last : (p : ℕ) → 48 ≤ last_of p w
  run-last p = high-last p w (word_some (run c n false) (fine c n r)) high

  run-first : (rest : List ℕ) → 48 ≤ get_or (w ++ rest) 0 40
  run-first rest = high-first w rest (word_some (run c n false) (fine c n r)) high

run-piece : (c n : ℕ) → Run c n → part (item gap (piece (token c n false))) ≡ digits n
run-piece zero n r = absurd (omega (arith, r.class-least))
run-piece (suc c) n r = append-nil (digits n)

-- ---- a break, behind a run

copy-break : (q k : ℕ) (rest : List ℕ) → 48 ≤ q → copy q (32 ∷ word (gap k) ++ (32 ∷ rest)) ≡ 32 ∷ 40 ∷ digits k ++ (41 ∷ 32 ∷ copy 32 rest)
copy-break q k rest h =
    rw (ne_eqb q 41 (omega arith), append_assoc (digits k) (41 ∷ []) (32 ∷ rest))
    (rw (copy-high 40 (digits k) (41 ∷ 32 ∷ rest) (high-digits k), kept-digits (digits-all k)))

gap-part : (k : ℕ) → 2 ≤ k → part (gap k) ≡ 32 ∷ 40 ∷ digits k ++ (41 ∷ 32 ∷ [])
gap-part k h = rw (ne_eqb k 1 (omega arith), append_assoc (digits k) (41 ∷ []) (32 ∷ []))

-- ---- the whole text

abbrev behind : List Token → List ℕ
behind ts = strung (λ j. 32 ∷ word j) (map (item gap) ts)

abbrev standard_of : List Token → List ℕ
standard_of ts = strung part (map (item gap) (map piece ts))

writing-run : (c n : ℕ) (ts : List Token) → Run c n → writing (token c n false ∷ ts) ≡ word (run c n false) ++ behind ts
unfolding render
writing-run c n ts r = rw (run-item c n r)

behind-writing : {ts : List Token} → Headed ts → behind ts ≡ 32 ∷ writing ts
unfolding render
behind-writing (headed c n ts r) = refl

-- a run behind a run of its class
copy-next : (q : ℕ) {ts : List Token} → 48 ≤ q → Headed ts → copy q (32 ∷ writing ts) ≡ 45 ∷ copy 32 (writing ts)
copy-next q g (headed c n ts r) =
    let h = run-first c n r (behind ts) in
    rw (writing-run c n ts r, ne_eqb q 41 (omega arith), ne_eqb (get_or (word (run c n false) ++ behind ts) 0 40) 40 (omega arith))

same_next : (c n : ℕ) {ts : List Token} → Run c n → Headed ts → undecided_behind (token c n false) ts ≡ false
    → gap_behind one_class (token c n false) ts ≡ token 0 1 false ∷ []
same_next c n r (headed d k us q) h =
    rw (one-class-yes c n d k r.class-least q.class-least (two-classes-no c n d k r.class-least q.class-least h))

copy-writing : (p : ℕ) {ts : List Token} → Ordered ts → undecided ts ≡ false → copy p (writing ts) ≡ standard_of (with_gaps ts)
copy-writing p (last {c = c} {n = n} r) h = rw (writing-run c n [] r, run-piece c n r) (copy_run c n r p [])
copy-writing p (next {c = c} {n = n} {ts = ts} r o) h =
    let u = both_false (undecided_behind (token c n false) ts) (undecided ts) h in
    rw (
      writing-run c n ts r,
      behind-writing (order-head o),
      copy_run c n r p (32 ∷ writing ts),
      copy-next (last_of p (word (run c n false))) (run-last c n r p) (order-head o),
      same_next c n r (order-head o) u.0,
      run-piece c n r,
      copy-writing 32 o u.1,
    )
copy-writing p (over {c = c} {n = n} {k = k} {ts = ts} r h o) z =
    let u = both_false (undecided_behind (token 0 k false) ts) (undecided ts) z in
    rw (
      writing-run c n (token 0 k false ∷ ts) r,
      behind-writing (order-head o),
      copy_run c n r p (32 ∷ word (gap k) ++ (32 ∷ writing ts)),
      copy-break (last_of p (word (run c n false))) k (writing ts) (run-last c n r p),
      copy-writing 32 o u.1,
    )
    (sym (ap standard_of (gaps-over c n k ts) ∙ rw (run-piece c n r, gap-part k h, append_assoc (digits k) (41 ∷ 32 ∷ []) (standard_of (with_gaps ts)))))

standard-some : {ts : List Token} → Headed ts → converted_of (inside ts) ≡ standard_of (with_gaps ts)
unfolding render
standard-some (headed c n ts r) = refl

pub copy-converted : (t : List ℕ) (ts : List Token) → t ≢ [] → reading t ≡ inside ts → undecided ts ≡ false → converted t ≡ copied t
unfolding converted render
copy-converted t ts h e u = let s = read-shape t ts e in rw e (go s.0 s.1)
  where
    go : t ≡ writing ts → (ts ≡ []) ⊎ Ordered ts → converted_of (inside ts) ≡ copied t
    go w (inl z) = absurd (h (w ∙ ap writing z))
    go w (inr o) = rw w (standard-some (order-head o) ∙ sym (copy-writing 41 o u))
