-- Where the lines of a text begin and end. Nothing here speaks of code.
-- Assumes nothing.
use Prim.Native.Nat.{ℕ}
use mathlib.Core.Path.{◌≡◌, refl, ap}
use mathlib.Core.Bool.{Bool, true, false, ◌&&◌}
use mathlib.Core.List.{List, [], ◌∷◌, ◌++◌}
use native.Mathlib.Omega.{arith}
use lib.Dec.{eqb}
use lib.ListN.{length}
use borrow.Author.Tests.{eqb-true}
use Rattle.number.proofs.Split.{split, never}
use Rattle.number.proofs.Each.{none, ◌&◌, All}
use Rattle.note_rows.specs.NoteRows.{Lines, end, cut, line, before, lines_of, one_of, all_of, row_bytes, is_row, is_byte}

-- the first line of a text stands before the first 0A
pub record Opens (text l : List ℕ) : Type 0 where
  pub rest : List ℕ
  pub whole : text ≡ l ++ 10 ∷ rest

-- a byte went into the first line
went-in : (b : ℕ) (text l : List ℕ) (ls ms : Lines) → lines_of text ≡ ms → before b ms ≡ line l ls
    → ((k : List ℕ) → lines_of text ≡ line k ls → l ≡ b ∷ k → Opens (b ∷ text) l) → Opens (b ∷ text) l
went-in b text l ls end e f g = never (cc)
went-in b text l ls cut e f g = never (cc)
went-in b text l ls (line k ms) e f g =
    let same : ms ≡ ls = cc in
    g k (rw same at e) (cc)

pub first-line : (text : List ℕ) {l : List ℕ} {ls : Lines} → lines_of text ≡ line l ls → Opens text l
first-line [] e = never (cc)
first-line (b ∷ text) {l} {ls} e =
    split (eqb b 10)
    (λ t.
    let f = rw t at e in
    let empty : l ≡ [] = cc in
    let ten : b ≡ 10 = eqb-true b 10 t in
    record { rest = text; whole = rw (empty, ten) })
    (λ t. went-in b text l ls (lines_of text) refl (rw t at e)
    (λ k h m.
    let r = first-line text h in
    let whole : b ∷ text ≡ (b ∷ k) ++ 10 ∷ r.rest = ap (λ (t : List ℕ). b ∷ t) r.whole in
    record { rest = r.rest; whole = rw m whole }))

-- bytes other than 0A, and then 0A, are a line
pub is-line : (l rest : List ℕ) → All (λ b. eqb b 10) false l → lines_of (l ++ 10 ∷ rest) ≡ line l (lines_of rest)
is-line [] rest h = refl
is-line (b ∷ l) rest (h & hs) = rw (h, is-line l rest hs)

-- no byte of a row is 0A
row-byte : (b : ℕ) → one_of row_bytes b ≡ true → eqb b 10 ≡ false
row-byte b h = split (eqb b 10) (λ e. let f = rw (eqb-true b 10 e) at h in never (cc)) (λ e. e)

both : (a b : Bool) → a && b ≡ true → (a ≡ true) × (b ≡ true)
both true b h = (refl, h)
both false b h = never (cc)

row-bytes : (l : List ℕ) → all_of row_bytes l ≡ true → All (λ b. eqb b 10) false l
row-bytes [] h = none
row-bytes (b ∷ l) h = let p = both (one_of row_bytes b) (all_of row_bytes l) h in row-byte b p.0 & row-bytes l p.1

-- a row has four bytes, and none of them is 0A
pub row-long : (l : List ℕ) → is_row l ≡ true → length l ≡ 4
unfolding is_row
row-long l h = eqb-true (length l) 4 (both (eqb (length l) 4) (all_of row_bytes l) h).0

pub row_open : (l : List ℕ) → is_row l ≡ true → All (λ b. eqb b 10) false l
unfolding is_row
row_open l h = row-bytes l (both (eqb (length l) 4) (all_of row_bytes l) h).1

-- it is no line of one byte
pub row-not-byte : (b : ℕ) (l : List ℕ) → is_row l ≡ true → is_byte b l ≡ false
row-not-byte b [] h = refl
row-not-byte b (x ∷ []) h = absurd (omega (arith, row-long (x ∷ []) h))
row-not-byte b (x ∷ y ∷ l) h = refl

-- a line of one byte is that byte
pub the-byte : (b : ℕ) (l : List ℕ) → is_byte b l ≡ true → l ≡ b ∷ []
the-byte b [] h = never (cc)
the-byte b (x ∷ []) h = rw (eqb-true x b h)
the-byte b (x ∷ y ∷ l) h = never (cc)
