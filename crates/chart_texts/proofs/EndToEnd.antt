-- Texts end to end: their room, their lengths and their bytes; and how the promise of the calls that write three of them follows.
-- Assumes nothing.
use Rattle.std.proofs.Common.{ℕ, zero, suc, ◌+◌, ◌-◌, ◌*◌, ◌≤◌, ◌<◌, ◌≡◌, refl, sym, ap, ◌∙◌, true, List, [], ◌∷◌, ◌++◌, length, take, drop, get_or, arith, leb, append_assoc, append-nil, length-append, add-one}
use Rattle.std.proofs.Math.ListN.{set, length-set}
use Rattle.std.proofs.Math.Seq.{take-suc-set, take_all}
use borrow.Author.Tests.{le-leb, leb-true}
use Rattle.std.specs.List.{sum_by}
use Rattle.std.proofs.lemmas.List.Sums.{sum_by-cons}
use Rattle.number.specs.Place.{Room, Wrote}
use Rattle.number.specs.Questions.{filled}
use Rattle.number.proofs.Place.{still, room-first, room_next, wrote, at-start}
use Rattle.rules.specs.declared.Kind.{Kind}
use Rattle.rules.specs.declared.Kind.TheVariants.{Sn as sn}
use Rattle.rules.specs.declared.BreakdownMode.TheVariants as Mode
use Rattle.rules.specs.Texts.{text, end_to_end, lengths_of}
use Rattle.chart_texts.specs.Promises.{three_no, Breakdowns}
use Rattle.chart_texts.proofs.Texts.{text-short}

module _ (m : List ℕ) where
  -- how long a text is
  abbrev pub due : Kind → ℕ
  due k = length (text k m)

  pub due-bytes : (ks : List Kind) → sum_by due ks ≡ length (end_to_end ks m)
  due-bytes [] = refl
  due-bytes (k ∷ ks) = omega (arith, sum_by-cons due k ks, due-bytes ks, length-append (text k m) (end_to_end ks m))

  due-most : (ks : List Kind) → length (end_to_end ks m) ≤ length ks * (4 * length m + 11)
  due-most [] = omega arith
  due-most (k ∷ ks) = omega (arith, due-most ks, text-short m k, length-append (text k m) (end_to_end ks m))

  pub three-short : (ks : List Kind) → length ks ≡ 3 → length (end_to_end ks m) ≤ 12 * length m + 33
  three-short ks e = omega (arith, rw e at (due-most ks))

  -- ---- text number i, what stands before it and what comes after it

  abbrev kind_at : List Kind → ℕ → Kind
  kind_at ks i = get_or ks i (sn Mode.Detailed)

  parts : (ks : List Kind) (i : ℕ) → i < length ks
      → end_to_end ks m ≡ end_to_end (take i ks) m ++ (text (kind_at ks i) m ++ end_to_end (drop (suc i) ks) m)
  parts [] i h = absurd (omega arith)
  parts (k ∷ ks) zero h = refl
  parts (k ∷ ks) (suc i) h = rw append_assoc (ap (λ (l : List ℕ). text k m ++ l) (parts ks i (omega arith)))

  next-bytes : (ks : List Kind) (i : ℕ) → i < length ks → end_to_end (take (suc i) ks) m ≡ end_to_end (take i ks) m ++ text (kind_at ks i) m
  next-bytes [] i h = absurd (omega arith)
  next-bytes (k ∷ ks) zero h = append-nil (text k m)
  next-bytes (k ∷ ks) (suc i) h = rw append_assoc (ap (λ (l : List ℕ). text k m ++ l) (next-bytes ks i (omega arith)))

  next-length : (ks : List Kind) (i : ℕ) → i < length ks → lengths_of (take (suc i) ks) m ≡ lengths_of (take i ks) m ++ (due (kind_at ks i) ∷ [])
  next-length [] i h = absurd (omega arith)
  next-length (k ∷ ks) zero h = refl
  next-length (k ∷ ks) (suc i) h = ap (λ (l : List ℕ). due k ∷ l) (next-length ks i (omega arith))

-- the first i texts stand end to end at the slice's start, and their lengths in a list as long as that of the kinds
pub record Going (m : List ℕ) (ks : List Kind) (old : List ℕ) (i : ℕ) (out : List ℕ) (at : ℕ) (lengths : List ℕ) : Type 0 where
  pub sofar : Wrote old out 0 (end_to_end (take i ks) m) at
  pub each : take i lengths ≡ lengths_of (take i ks) m
  pub long : length lengths ≡ length ks

module _ {m : List ℕ} {ks : List Kind} {old out lengths : List ℕ} {i at : ℕ} (g : Going m ks old i out at lengths) where
  module _ (h : i < length ks) where
    abbrev here : List ℕ
    here = text (kind_at m ks i) m

    pub room-here : length (end_to_end ks m) ≤ length old → Room out at here
    room-here r =
        let rest = end_to_end (drop (suc i) ks) m in
        let all : Room old 0 (end_to_end (take i ks) m ++ (here ++ rest)) = record { fits = omega (arith, r, ap {B = ℕ} length (parts m ks i h)) } in
        room-first here rest (room_next (end_to_end (take i ks) m) (here ++ rest) g.sofar all)

    pub on : {new : List ℕ} {r : ℕ} → Wrote out new at here r → Going m ks old (i + 1) new r (set lengths i (r - at))
    on {r = r} w =
        let n : r - at ≡ length here = omega (arith, w.next) in
        rw add-one
        (record {
          sofar = rw (next-bytes m ks i h) (wrote (end_to_end (take i ks) m) here g.sofar w);
          each = rw (take-suc-set lengths i (r - at) (omega (arith, g.long)), next-length m ks i h, n, g.each);
          long = length-set lengths i (r - at) ∙ g.long;
        })

  pub ends : length ks ≤ i → length (end_to_end ks m) ≤ length old → (lengths ≡ lengths_of ks m) × (out ≡ filled old (end_to_end ks m))
  ends h r =
      let e : take i lengths ≡ lengths_of ks m = rw (take_all i ks h) at g.each in
      (sym (take_all i lengths (omega (arith, g.long))) ∙ e, (at-start (end_to_end ks m) old out at r (rw (take_all i ks h) at g.sofar)).1)

-- three texts that had room
pub written-three : {n m : List ℕ} {ks : List Kind} {old out lengths : List ℕ} {i at : ℕ} → n ≡ m → length n ≤ 1048576
    → leb (length (end_to_end ks n)) (length old) ≡ true → Going n ks old i out at lengths → length ks ≤ i
    → Breakdowns ks m old out (record { refused = 0; lengths = lengths })
written-three {n} {ks = ks} {old} e few fits g h =
    let d = ends g h (leb-true (length (end_to_end ks n)) (length old) fits) in
    rw (← e) (
    let no : three_no ks n old ≡ 0 = rw (le-leb (length n) 1048576 few, fits) in
    record { answer = rw (no, d.0); bytes = rw (no, d.1) }
    )
