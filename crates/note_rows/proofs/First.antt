-- The first line of a text: a row, "," or ";", or none of these. Nothing here speaks of code.
-- Assumes nothing.
use Prim.Native.Nat.{ℕ, suc, ◌+◌, ◌-◌, ◌≤◌, ◌<◌}
use mathlib.Core.Path.{◌≡◌, refl, sym, ap, ◌∙◌}
use mathlib.Core.Bool.{true, false}
use mathlib.Core.List.{List, [], ◌∷◌, ◌++◌}
use native.Mathlib.Numerals.{add-one}
use native.Mathlib.Omega.{arith}
use lib.Dec.{eqb}
use lib.ListN.{length, take, drop, get_or, length-append, length-drop, take-append-drop}
use lib.Seq.{take_at, get_or_at, drop-cons, take_all}
use Rattle.std.specs.Prelude.{Some, None}
use Rattle.number.proofs.Split.{split, never}
use Rattle.number.proofs.Each.{All}
use Rattle.number.proofs.Numbered.{numbered}
use Rattle.note_rows.specs.NoteRows.{Lines, end, cut, line, before, lines_of, some_of, note_bytes, is_row, note, is_byte, is_end, lines_no}
use Rattle.number.specs.Refusal.{refusal_number}
use Rattle.number.specs.declared.refusal.Refusal.{Refusal}
use Rattle.number.specs.declared.refusal.Refusal.TheVariants.{BadLine}
use Rattle.note_rows.specs.Steps.{row_of, begins_row, FirstRow, end_no, IsFault}
use Rattle.note_rows.proofs.Lines.{first-line, is-line, row-long, row_open}

-- a text that has bytes has a line, or one that is cut
before-end : (b : ℕ) (ls : Lines) → before b ls ≡ end → ⊥
before-end b end e = never (cc)
before-end b cut e = never (cc)
before-end b (line l ls) e = never (cc)

not_end : (text : List ℕ) → 0 < length text → lines_of text ≡ end → ⊥
not_end [] h e = omega arith
not_end (b ∷ text) h e = split (eqb b 10) (λ t. let f = rw t at e in never (cc)) (λ t. before-end b (lines_of text) (rw t at e))

pub not-ended : (text : List ℕ) → 0 < length text → is_end (lines_of text) ≡ false
not-ended text h = other (lines_of text) (not_end text h)
  where
    other : (ls : Lines) → (ls ≡ end → ⊥) → is_end ls ≡ false
    other end n = absurd (n refl)
    other cut n = refl
    other (line l ls) n = refl

-- a first line of n bytes: where it ends, and what it holds
record LineOf (n : ℕ) (text l : List ℕ) : Type 0 where
  within : n < length text
  closed : get_or text n 0 ≡ 10
  bytes : take n text ≡ l

line_of : (n : ℕ) (text : List ℕ) {l : List ℕ} {ls : Lines} → lines_of text ≡ line l ls → length l ≡ n → LineOf n text l
line_of n text {l} e h =
    let f = first-line text e in
    let w = f.whole in
    record {
      within = omega (arith, ap length w, length-append l (10 ∷ f.rest));
      closed = ap (λ (t : List ℕ). get_or t n 0) w ∙ get_or_at l 10 f.rest 0 n h;
      bytes = ap (take n) w ∙ take_at l (10 ∷ f.rest) n h;
    }

-- the bytes after n, as a slice pattern gives them
abbrev pub after : ℕ → List ℕ → List ℕ
after n text = take (length text - n) (drop n text)

after-is : (n : ℕ) (text : List ℕ) → after n text ≡ drop n text
after-is n text = take_all (length text - n) (drop n text) (simp length-drop (omega arith))

-- a text whose first 0A stands after n bytes has such a line
has-line : (n : ℕ) (text : List ℕ) → n + 1 ≤ length text → get_or text n 0 ≡ 10 → All (λ b. eqb b 10) false (take n text)
    → lines_of text ≡ line (take n text) (lines_of (after (n + 1) text))
has-line n text h e inside =
    let d : drop n text ≡ get_or text n 0 ∷ drop (suc n) text = drop-cons text n 0 (omega arith) in
    let whole : text ≡ take n text ++ 10 ∷ drop (suc n) text = sym (take-append-drop n text) ∙ ap (λ (t : List ℕ). take n text ++ t) (d ∙ rw e) in
    ap lines_of whole ∙ is-line (take n text) (drop (suc n) text) inside ∙ rw (after-is (n + 1) text, add-one n)

-- no row
no_row : (ls : Lines) → ((l : List ℕ) (ms : Lines) → ls ≡ line l ms → is_row l ≡ true → ⊥) → begins_row ls ≡ false
no_row end n = refl
no_row cut n = refl
no_row (line l ls) n = split (is_row l) (λ t. absurd (n l ls refl t)) (λ t. t)

module _ (text : List ℕ) where
  -- what first_row answers
  pub too_short : length text < 5 → begins_row (lines_of text) ≡ false
  too_short h = no_row (lines_of text) (λ l ls e r. omega (arith, (line_of 4 text e (row-long l r)).within))

  pub not-closed : (get_or text 4 0 ≡ 10 → ⊥) → begins_row (lines_of text) ≡ false
  not-closed h = no_row (lines_of text) (λ l ls e r. h ((line_of 4 text e (row-long l r)).closed))

  -- the first four bytes
  abbrev pub four : List ℕ
  four = get_or text 0 0 ∷ get_or text 1 0 ∷ get_or text 2 0 ∷ get_or text 3 0 ∷ []

  module _ (long : 5 ≤ length text) (closed : get_or text 4 0 ≡ 10) where
    four-is : take 4 text ≡ four
    four-is = first-four text long
      where
        first-four : (t : List ℕ) → 5 ≤ length t → take 4 t ≡ get_or t 0 0 ∷ get_or t 1 0 ∷ get_or t 2 0 ∷ get_or t 3 0 ∷ []
        first-four [] h = absurd (omega arith)
        first-four (a ∷ []) h = absurd (omega arith)
        first-four (a ∷ b ∷ []) h = absurd (omega arith)
        first-four (a ∷ b ∷ c ∷ []) h = absurd (omega arith)
        first-four (a ∷ b ∷ c ∷ d ∷ t) h = refl

    -- four bytes that are no row
    pub other_bytes : None ≡ row_of four → begins_row (lines_of text) ≡ false
    other_bytes e =
        split (is_row four)
        (λ r. let f = rw r at e in never (cc))
        (λ r. no_row (lines_of text)
        (λ l ls t q. let same : l ≡ four = sym (line_of 4 text t (row-long l q)).bytes ∙ four-is in let f = rw same at q in never (cc)))

    pub a-row : {n : ℕ} → Some n ≡ row_of four → FirstRow text n (after 5 text)
    a-row {n} e =
        split (is_row four)
        (λ r. let f = rw r at e in record {
          l = four;
          lines = rw four-is at (has-line 4 text long closed (rw four-is (row_open four r)));
          is-row = r;
          adds = cc;
          shorter = omega (arith, length-drop 5 text, ap length (after-is 5 text));
        })
        (λ r. let f = rw r at e in never (cc))

-- a text of one byte begins with no line that passes
pub one_left : (text : List ℕ) → 0 < length text → length text < 2 → IsFault text BadLine
one_left text g h = record { no-row = too_short text (omega arith); number = cut-off text g h }
  where
    cut-off : (t : List ℕ) → 0 < length t → length t < 2 → end_no (lines_of t) ≡ 14
    cut-off [] g h = absurd (omega arith)
    cut-off (b ∷ []) g h = split (eqb b 10) (λ e. rw e) (λ e. rw e)
    cut-off (b ∷ c ∷ t) g h = absurd (omega arith)

-- a faulty first line is the first one that is faulty
pub first-fault : {text : List ℕ} {e : Refusal} → IsFault text e → (rows : ℕ) → lines_no rows (lines_of text) ≡ refusal_number e
first-fault {text} {e} f rows = faulty (lines_of text) f.no-row f.number
  where
    faulty : (ls : Lines) → begins_row ls ≡ false → end_no ls ≡ refusal_number e → lines_no rows ls ≡ refusal_number e
    faulty end r h = h
    faulty cut r h = h
    faulty (line l ls) r h =
        split (is_byte 44 l)
        (λ c. absurd (numbered e (sym (rw c at h))))
        (λ c. rw (r, c) (rw c at h))

-- a row adds one at most
pub adds_one : (l : List ℕ) → note l ≤ 1
unfolding note
adds_one l = split (some_of note_bytes l) (λ e. rw e (omega arith)) (λ e. rw e (omega arith))
