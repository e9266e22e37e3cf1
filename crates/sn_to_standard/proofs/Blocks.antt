-- The copy of a text, part by part: what is shown at a place, what is kept of one part more, and one byte more of a block.
-- Assumes nothing.
use Prim.Native.Nat.{ℕ, zero, suc, ◌+◌, ◌-◌, ◌≤◌, ◌<◌}
use mathlib.Core.Path.{◌≡◌, refl, sym, ap, ◌∙◌}
use mathlib.Core.Bool.{◌||◌}
use mathlib.Core.List.{List, [], ◌∷◌, ◌++◌, append-nil}
use native.Mathlib.Numerals.{add-one}
use native.Mathlib.Omega.{arith}
use lib.Dec.{ltb, eqb}
use lib.ListN.{length, take, drop, get_or, set, length-append, length-drop, take-append-drop, drop_of_length-le}
use lib.Seq.{take-suc, take-suc-set, drop-cons, drop-drop, get_or-drop}
use borrow.Author.Tests.{eqb-true}
use Rattle.number.proofs.Split.{split}
use Rattle.sn_to_standard.specs.Copied.{shown_space, shown_byte, shown_bytes, kept_byte, kept, copied, Block, shown_part}

-- ---- what is shown at a place

shown-length : (p : ℕ) (xs : List ℕ) → length (shown_bytes p xs) ≡ length xs
shown-length p [] = refl
shown-length p (x ∷ xs) = ap suc (shown-length x xs)

-- a byte between two others
shown-inner : (p : ℕ) (xs : List ℕ) (i : ℕ) → suc (suc i) < length xs
    → get_or (shown_bytes p xs) (suc i) 0 ≡ shown_byte (get_or xs i 0) (get_or xs (suc i) 0) (get_or xs (suc (suc i)) 0)
shown-inner p [] i h = absurd (omega arith)
shown-inner p (x ∷ []) i h = absurd (omega arith)
shown-inner p (x ∷ y ∷ []) i h = absurd (omega arith)
shown-inner p (x ∷ y ∷ z ∷ xs) zero h = refl
shown-inner p (x ∷ y ∷ z ∷ xs) (suc i) h = shown-inner x (y ∷ z ∷ xs) i (omega arith)

-- a byte at an end
same_byte : (p x q : ℕ) → shown_space p q ≡ 32 → shown_byte p x q ≡ x
same_byte p x q e = split (eqb x 32) (λ h. rw (h, e) (sym (eqb-true x 32 h))) (λ h. rw h)

shown-first : (xs : List ℕ) → get_or (shown_bytes 41 xs) 0 0 ≡ get_or xs 0 0
shown-first [] = refl
shown-first (x ∷ xs) = same_byte 41 x (get_or xs 0 40) refl

shown-last : (p : ℕ) (xs : List ℕ) (i : ℕ) → length xs ≡ suc i → get_or (shown_bytes p xs) i 0 ≡ get_or xs i 0
shown-last p [] i h = absurd (omega arith)
shown-last p (x ∷ []) zero h = same_byte p x 40 (split (eqb p 41) (λ e. rw e) (λ e. rw e))
shown-last p (x ∷ []) (suc i) h = absurd (omega arith)
shown-last p (x ∷ y ∷ xs) zero h = absurd (omega arith)
shown-last p (x ∷ y ∷ xs) (suc i) h = shown-last x (y ∷ xs) i (omega arith)

-- ---- what is kept

pub kept_append : (xs ys : List ℕ) → kept (xs ++ ys) ≡ kept xs ++ kept ys
kept_append [] ys = refl
kept_append (x ∷ xs) ys = split (ltb 57 x) (λ e. rw e (kept_append xs ys)) (λ e. rw (e, kept_append xs ys))

pub kept-most : (xs : List ℕ) → length (kept xs) ≤ length xs
kept-most [] = omega arith
kept-most (x ∷ xs) = let h = kept-most xs in split (ltb 57 x) (λ e. rw e (omega arith)) (λ e. rw e (omega arith))

mark-shown : (p x q : ℕ) → ltb 57 (shown_byte p x q) ≡ ltb 57 x
mark-shown p x q =
    split (eqb x 32) (λ e. rw (e, eqb-true x 32 e) (split (eqb p 41 || eqb q 40) (λ h. rw h) (λ h. rw h))) (λ e. rw e)

-- how many: as of the text itself
pub kept-shown : (p : ℕ) (xs : List ℕ) → length (kept (shown_bytes p xs)) ≡ length (kept xs)
kept-shown p [] = refl
kept-shown p (x ∷ xs) =
    rw (mark-shown p x (get_or xs 0 40)) (split (ltb 57 x) (λ e. rw e (kept-shown x xs)) (λ e. rw (e, kept-shown x xs)))

module _ (l : List ℕ) (i : ℕ) where
  -- a part, and what follows
  pub kept-part : (n : ℕ) → kept (drop i l) ≡ kept (take n (drop i l)) ++ kept (drop (i + n) l)
  kept-part n =
      ap kept (sym (take-append-drop n (drop i l)))
      ∙ kept_append (take n (drop i l)) (drop n (drop i l))
      ∙ ap (λ (r : List ℕ). kept (take n (drop i l)) ++ kept r) (drop-drop n i l)

  module _ (h : i < length l) where
    kept-first : kept (drop i l) ≡ kept_byte (get_or l i 0) ++ kept (drop (i + 1) l)
    kept-first = rw (add-one i, drop-cons l i 0 h) (kept_append (get_or l i 0 ∷ []) (drop (suc i) l))

    pub kept_more : kept (take (i + 1) l) ≡ kept (take i l) ++ kept_byte (get_or l i 0)
    kept_more = rw (add-one i, take-suc l i 0 h) (kept_append (take i l) (get_or l i 0 ∷ []))

    pub count-more : length (kept (take (i + 1) l)) ≡ length (kept (take i l)) + length (kept_byte (get_or l i 0))
    count-more = ap length kept_more ∙ length-append (kept (take i l)) (kept_byte (get_or l i 0))

-- ---- a text's two ends

module _ (text : List ℕ) where
  pub copied-first : 1 ≤ length text → copied text ≡ kept_byte (get_or text 0 0) ++ kept (drop 1 (shown_bytes 41 text))
  copied-first h = rw (shown-first text) at (kept-first (shown_bytes 41 text) 0 (rw (shown-length 41 text) h))

  pub copied-last : (i : ℕ) → length text ≡ suc i → kept (drop i (shown_bytes 41 text)) ≡ kept_byte (get_or text i 0)
  copied-last i e =
      let l = shown-length 41 text in
      kept-first (shown_bytes 41 text) i (omega arith)
      ∙ rw (shown-last 41 text i e, drop_of_length-le (shown_bytes 41 text) {i = i + 1} (omega arith), append-nil)

-- ---- a block

module _ {text : List ℕ} {i n : ℕ} (g : Block text i n) where
  module _ (j : ℕ) (h : j < n) where
    -- the byte that is due at j
    due : get_or (drop i (shown_bytes 41 text)) j 0 ≡ shown_byte (get_or text (i + j - 1) 0) (get_or text (i + j) 0) (get_or text (i + j + 1) 0)
    due =
        let s : suc (i + j - 1) ≡ i + j = omega (arith, g.first) in
        let e = shown-inner 41 text (i + j - 1) (omega (arith, g.first, g.last)) in
        get_or-drop i (shown_bytes 41 text) j 0 ∙ rw (add-one (i + j)) (rw s at e)

    pub fill_on : (block : List ℕ) (b : ℕ) → j < length block → take j block ≡ shown_part text i j
        → b ≡ shown_byte (get_or text (i + j - 1) 0) (get_or text (i + j) 0) (get_or text (i + j + 1) 0)
        → take (j + 1) (set block j b) ≡ shown_part text i (j + 1)
    fill_on block b l e q =
        let k : j < length (drop i (shown_bytes 41 text)) = simp (length-drop, shown-length) (omega (arith, g.last)) in
        rw (add-one j, take-suc-set block j b l, take-suc (drop i (shown_bytes 41 text)) j 0 k, e, due, q)
