-- Each text can be read back into its reduced list. So two charts' texts of a kind are the same exactly when their reduced lists are.
-- Assumes nothing.
use Prim.Native.Nat.{ℕ, zero, suc, ◌≤◌}
use mathlib.Core.Path.{◌≡◌, refl, sym, ap, ◌∙◌}
use mathlib.Core.Bool.{Bool, true, false, cond}
use mathlib.Core.Logic.{◌↔◌}
use mathlib.Core.List.{List, [], ◌∷◌, ◌++◌, map, append_assoc, append-nil}
use native.Mathlib.Omega.{arith}
use native.Mathlib.Nat.{le_of_suc-le-suc}
use lib.Dec.{eqb, leb}
use borrow.Author.Tests.{eqb-true}
use Rattle.number.specs.Digits.{digits, value}
use Rattle.rules.specs.Bytes.{bytes}
use Rattle.rules.specs.Chart.{Token, token, classes, tokens, streams}
use Rattle.rules.specs.Reduced.{Sign, dash, slash, bar, Item, gap, sign, item, sign_of, join, sum_of, pieces, Kind, sn, standard, reduced}
use Rattle.rules.specs.declared.BreakdownMode.{BreakdownMode}
use Rattle.rules.specs.declared.BreakdownMode.TheVariants as Mode
use Rattle.rules.specs.declared.StreamBreakdownLevel.{StreamBreakdownLevel}
use Rattle.rules.specs.declared.StreamBreakdownLevel.TheVariants as Level
use Rattle.rules.specs.Texts.{star, word, part, standard_sign, strung, render, text}
use Rattle.number.proofs.Split.{split}
use Rattle.number.proofs.Each.{Each, none, ◌&◌}
use Rattle.number.proofs.Read.{value-digits}
use Rattle.rules.proofs.Cuts.{Reads, ended, stretch, parse, parse-reads}
use Rattle.rules.proofs.Words.{read, read_word, read-piece, read-gap, Fine, solid, figure, word-solid, word_some, piece-figure, gap-figure, number-some}
use Rattle.rules.proofs.Shape.{Within, Differ, differ-within, join-differ, absorb-within, drop-within, tokens-differ, pieces-differ}

-- ---- SN: items without a space, parted by spaces

more-reads : {is : List Item} → Each Fine is → Reads solid (read (sign dash)) false (strung (λ j. bytes " " ++ word j) is) is
more-reads none = ended
more-reads (◌&◌ {x = i} {xs = is} f fs) =
    stretch (bytes " ") tt (refl & none) refl (stretch (word i) (word_some i f) (word-solid i) (read_word i is f) (more-reads fs))

spaced-back : (m : BreakdownMode) {is : List Item} → Each Fine is → parse solid (read (sign dash)) (render (sn m) is) ≡ is
unfolding render
spaced-back m none = refl
spaced-back m (◌&◌ {x = i} {xs = is} f fs) =
    parse-reads solid (read (sign dash)) (stretch (word i) (word_some i f) (word-solid i) (read_word i is f) (more-reads fs))

-- tokens' items are fine, if breaks are shown by fine items
items-fine : (g : ℕ → Item) → ((n : ℕ) → Fine (g n)) → (ts : List Token) → Within 4 ts → Each Fine (map (item g) ts)
items-fine g f [] none = none
items-fine g f (token zero n s ∷ ts) (h & hs) = f n & items-fine g f ts hs
items-fine g f (token (suc c) n s ∷ ts) (h & hs) = le_of_suc-le-suc h & items-fine g f ts hs

sn-fine : (m : BreakdownMode) (d : List ℕ) → Each Fine (reduced (sn m) (classes d))
unfolding reduced
sn-fine m d = go m
  where
    joined : (k : ℕ) → Within 4 (join k (tokens (classes d)))
    joined k = differ-within 4 5 (join k (tokens (classes d))) (join-differ 4 k 5 (tokens (classes d)) (tokens-differ d))

    go : (m : BreakdownMode) → Each Fine (reduced (sn m) (classes d))
    go Mode.Detailed = items-fine gap (λ n. tt) _ (drop-within 4 (differ-within 4 5 (tokens (classes d)) (tokens-differ d)))
    go Mode.Partial = items-fine (sign_of 32) (λ n. tt) _ (drop-within 4 (joined 1))
    go Mode.Simplified = items-fine (sign_of 32) (λ n. tt) _ (drop-within 4 (absorb-within 4 4 (joined 4)))

-- ---- Standard: pieces and gaps in turn. `g` shows a gap, and "-" is read as d

module _ (g : ℕ → Item) (d : Item) where
  -- what g shows can be read back
  abbrev GapsRead : Type 0
  GapsRead = (n : ℕ) (rest : List ℕ) (is : List Item) → Reads figure (read d) true rest is → Reads figure (read d) false (part (g n) ++ rest) (g n ∷ is)

  abbrev piece_next : ℕ → Bool
  piece_next zero = true
  piece_next (suc p) = false

  module _ (gaps : GapsRead) where
    -- p is the class before the first token
    parts-reads : (p : ℕ) (ts : List Token) → p ≤ 1 → Differ 1 p ts → Reads figure (read d) (piece_next p) (strung part (map (item g) ts)) (map (item g) ts)
    parts-reads p [] q h = ended
    parts-reads zero (token zero n s ∷ ts) q h = absurd (h.1 refl)
    parts-reads zero (token (suc zero) n s ∷ ts) q h =
        stretch (digits n ++ star s) (number-some n (star s)) (piece-figure n s) (read-piece d n s _) (parts-reads 1 ts (omega arith) h.2)
    parts-reads zero (token (suc (suc c)) n s ∷ ts) q h = absurd (omega arith)
    parts-reads (suc p) (token zero n s ∷ ts) q h = gaps n _ _ (parts-reads 0 ts (omega arith) h.2)
    parts-reads (suc p) (token (suc c) n s ∷ ts) q h = absurd (h.1 (omega arith))

    standard-back : (l : StreamBreakdownLevel) (ts : List Token) → Differ 1 0 ts
        → parse figure (read d) (render (standard l) (map (item g) ts)) ≡ map (item g) ts
    unfolding render
    standard-back l [] h = refl
    standard-back l (t ∷ ts) h = parse-reads figure (read d) (parts-reads 0 (t ∷ ts) (omega arith) h)

signs-read : (most : ℕ) → GapsRead (sign_of most) (sign dash)
signs-read most n rest is r = go (cond (leb n 4) dash (cond (leb n most) slash bar))
  where
    go : (s : Sign) → Reads figure (read (sign dash)) false (standard_sign s ++ rest) (sign s ∷ is)
    go dash = stretch (bytes "-") tt (refl & none) refl r
    go slash = stretch (bytes "/") tt (refl & none) refl r
    go bar = stretch (bytes " | ") tt (refl & refl & refl & none) refl r

gaps-read : GapsRead gap (gap 1)
gaps-read n rest is r =
    split (eqb n 1)
    (λ e. rw e (stretch (bytes "-") tt (refl & none) (ap (λ (k : ℕ). gap k ∷ is) (sym (eqb-true n 1 e))) r))
    (λ e. rw (e, append_assoc (word (gap n)) (bytes " ") rest)
    (stretch (bytes " ") tt (refl & none) refl
    (stretch (word (gap n)) tt (gap-figure n) (read-gap (gap 1) n is)
    (stretch (bytes " ") tt (refl & none) refl r))))

-- ---- All seven

-- a text of each kind, read
abbrev pub read_back : Kind → List ℕ → List Item
read_back (sn m) = parse solid (read (sign dash))
read_back (standard Level.Detailed) = parse figure (read (gap 1))
read_back (standard Level.Partial) = parse figure (read (sign dash))
read_back (standard Level.Simple) = parse figure (read (sign dash))
read_back (standard Level.Total) = λ bs. sum_of (value 0 bs)

total-back : (n : ℕ) → sum_of (value 0 (render (standard Level.Total) (sum_of n))) ≡ sum_of n
unfolding render
total-back zero = refl
total-back (suc n) = rw append-nil (ap sum_of (value-digits (suc n) (bytes " Total")))

pub read_back_lem : (k : Kind) (d : List ℕ) → read_back k (text k d) ≡ reduced k (classes d)
unfolding text reduced
read_back_lem (sn m) d = spaced-back m (sn-fine m d)
read_back_lem (standard Level.Detailed) d = standard-back gap (gap 1) gaps-read Level.Detailed (pieces (classes d)) (pieces-differ (classes d))
read_back_lem (standard Level.Partial) d = standard-back (sign_of 31) (sign dash) (signs-read 31) Level.Partial (pieces (classes d)) (pieces-differ (classes d))
read_back_lem (standard Level.Simple) d =
    standard-back (sign_of 31) (sign dash) (signs-read 31) Level.Simple (join 1 (pieces (classes d)))
    (join-differ 1 1 0 (pieces (classes d)) (pieces-differ (classes d)))
read_back_lem (standard Level.Total) d = total-back (streams (classes d))

-- two charts' texts are the same exactly when their reduced lists are
pub exactly-when : (k : Kind) (a b : List ℕ) → (text k a ≡ text k b) ↔ (reduced k (classes a) ≡ reduced k (classes b))
unfolding text
exactly-when k a b = (λ e. sym (read_back_lem k a) ∙ ap (read_back k) e ∙ read_back_lem k b, λ e. ap (render k) e)
