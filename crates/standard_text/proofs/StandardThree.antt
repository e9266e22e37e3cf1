-- The three standard texts in one walk: a gap with the run behind it, how short a piece is, and each text up to a place of the slices.
-- Assumes nothing.
use Prim.Native.Nat.{ℕ, ◌+◌, ◌*◌, ◌≤◌, ◌<◌}
use mathlib.Core.Path.{◌≡◌, refl, sym, ◌∙◌}
use mathlib.Core.Bool.{Bool, true, false}
use mathlib.Core.Logic.{◌≢◌}
use mathlib.Core.List.{List, [], ◌∷◌, ◌++◌, append_assoc, append-nil}
use native.Mathlib.Nat.{add_assoc, zero-add}
use native.Mathlib.Omega.{arith}
use lib.Dec.{eqb, leb}
use lib.ListN.{length, drop, get_or, length-append}
use borrow.Author.Tests.{leb-true, leb-false}
use Rattle.number.proofs.Split.{split}
use Rattle.number.specs.Digits.{digits}
use Rattle.rules.specs.Chart.{Token, token}
use Rattle.rules.specs.Texts.{part, star}
use Rattle.rules.specs.Slices.{paired, total}
use Rattle.number.specs.Grown.{Grown}
use Rattle.text_buffer.specs.Parts.{TokensBehind}
use Rattle.text_buffer.proofs.Bytes.{measures-short, star-short, sign-short, sign-long}
use Rattle.number.proofs.Grown.{grown as grown-on, grown-none}
use Rattle.rules.proofs.Pairs.{none_left, slices-next}
use Rattle.text_buffer.specs.MayFollow.{MayFollow}
use native.Mathlib.Numerals.{add-one}
use Rattle.standard_text.specs.Standard.{gap_item, standard_from}
use Rattle.standard_text.specs.Filled.{done_text}
use Rattle.standard_text.specs.StandardThree.{OpenedIn}
use Rattle.standard_text.proofs.StandardParts.{run-text, over-text, apart-text}

-- ---- with numbers of the domain, a piece and the gap behind it have at most 22 bytes

gap-short : (b : Bool) (g : ℕ) → g ≤ 1048576 → length (part (gap_item b g)) ≤ 11
gap-short true g h = split (leb g 31) (λ e. omega (arith, sign-short g (leb-true _ _ e))) (λ e. omega (arith, sign-long g (leb-false _ _ e)))
gap-short false g h = split (eqb g 1) (λ e. rw e (omega arith)) (λ e. rw e (simp length-append (omega (arith, measures-short g h))))

pub done-short : (b : Bool) (n : ℕ) (s : Bool) (g : ℕ) → n ≤ 1048576 → g ≤ 1048576 → length (done_text b n s g) ≤ 22
done-short b n s g h l = simp length-append (omega (arith, measures-short n h, star-short s, gap-short b g l))

-- ---- a gap of g and a run of m measures behind an open piece of n measures and star s

module _ (b : Bool) (k n : ℕ) (s : Bool) (g m : ℕ) where
  -- xs is done, and a piece of r measures and star t is open then
  abbrev pub Turned : List ℕ → ℕ → Bool → Type 0
  Turned xs r t = (c : ℕ) (more : List Token) → c ≢ 0
      → standard_from b k n s (token 0 g false ∷ token c m false ∷ more) ≡ xs ++ standard_from b k r t more

  pub turned-over : g ≤ k → Turned [] (n + (g + m)) true
  turned-over l c more h = over-text b k n s g c m more h l ∙ run-text b k (n + g) true c m more h ∙ rw add_assoc

  pub turned_apart : k < g → Turned (done_text b n s g) m false
  turned_apart l c more h = apart-text b k n s g c m more h l ∙ rw (run-text b k 0 false c m more h, zero-add)

-- ---- a place in two slices: what stands there stands after a token of class `last`

pub record TokenPlace (cs ns : List ℕ) (i : ℕ) : Type 0 where
  pub long : length cs ≡ length ns
  pub few : length cs ≤ 1048576
  pub within : i ≤ length cs
  pub last : ℕ
  pub behind : MayFollow last (drop i (paired cs ns))

standing-first : {cs ns : List ℕ} → length cs ≡ length ns → TokensBehind 1 cs ns → TokenPlace cs ns 0
standing-first l h = record { long = l; few = h.few; within = omega arith; last = 1; behind = h.behind }

module _ {cs ns : List ℕ} {i : ℕ} (p : TokenPlace cs ns i) (l : i < length cs) where
  token-next : drop i (paired cs ns) ≡ token (get_or cs i 0) (get_or ns i 0) false ∷ drop (i + 1) (paired cs ns)
  token-next = slices-next cs ns i p.long l ∙ rw add-one

  standing-next : TokenPlace cs ns (i + 1)
  standing-next =
      record { long = p.long; few = p.few; within = omega arith; last = get_or cs i 0; behind = (rw token-next at p.behind).1 }

-- ---- a gap in two slices

-- one at place i: a run stands behind it
pub record GapAt (cs ns : List ℕ) (i : ℕ) : Type 0 where
  pub inside : i + 1 < length cs
  pub some : 1 ≤ get_or ns i 0
  pub run : get_or cs (i + 1) 0 ≢ 0
  pub tokens : drop i (paired cs ns) ≡ token 0 (get_or ns i 0) false ∷ token (get_or cs (i + 1) 0) (get_or ns (i + 1) 0) false ∷ drop (i + 1 + 1) (paired cs ns)

pub gap_at : {cs ns : List ℕ} {i : ℕ} → TokenPlace cs ns i → i < length cs → get_or cs i 0 ≡ 0 → GapAt cs ns i
gap_at {cs} {ns} {i} p l z =
    let h = rw (token-next p l, z) at p.behind in
    let inside : i + 1 < length cs = split (leb (length cs) (i + 1))
    (λ e. absurd ((rw (none_left cs ns (i + 1) (leb-true _ _ e)) at h.1).0 refl))
    (λ e. leb-false _ _ e) in
    let next = token-next (standing-next p l) inside in
    record {
      inside = inside;
      some = (h.0 refl).1;
      run = λ e. ((rw next at h.1).0 e).0 refl;
      tokens = token-next p l ∙ rw (z, next);
    }

-- ---- one of the texts: that of the tokens before place i is in the buffer, but for the piece that is open there, of m measures and star t

pub record Walking (b : Bool) (k n : ℕ) (cs ns old buf : List ℕ) (place i m : ℕ) (t : Bool) : Type 0 where
  pub done : List ℕ
  pub text : standard_from b k n false (paired cs ns) ≡ done ++ standard_from b k m t (drop i (paired cs ns))
  pub grown : Grown old buf 0 done place
  pub standing : TokenPlace cs ns i
  pub low : place ≤ 11 * i
  pub few : m + total (drop i (paired cs ns)) ≤ 1048576

module _ {b : Bool} {k n : ℕ} {cs ns old : List ℕ} where
  pub walking-starts : length cs ≡ length ns → TokensBehind 1 cs ns → n + total (paired cs ns) ≤ 1048576 → Walking b k n cs ns old old 0 0 n false
  walking-starts l h f =
      record { done = []; text = refl; grown = grown-none; standing = standing-first l h; low = omega arith; few = f }

  module _ {buf : List ℕ} {place i m : ℕ} {t : Bool} (w : Walking b k n cs ns old buf place i m t) where
    module _ (l : i < length cs) where
      pub walking_run : get_or cs i 0 ≢ 0 → Walking b k n cs ns old buf place (i + 1) (m + get_or ns i 0) t
      walking_run r =
          let e = token-next w.standing l in
          record {
            done = w.done;
            text = w.text ∙ rw (e, run-text b k m t (get_or cs i 0) (get_or ns i 0) (drop (i + 1) (paired cs ns)) r);
            grown = w.grown;
            standing = standing-next w.standing l;
            low = omega (arith, w.low);
            few = omega (arith, rw e at w.few);
          }

      module _ (z : get_or cs i 0 ≡ 0) where
        pub gap-few : m + (get_or ns i 0 + get_or ns (i + 1) 0) ≤ 1048576
        gap-few = omega (arith, rw (gap_at w.standing l z).tokens at w.few)

        -- xs is added, at most 22 bytes for the gap and the run behind it
        pub walking-gap : {xs new : List ℕ} {next r : ℕ} {u : Bool} → Turned b k m t (get_or ns i 0) (get_or ns (i + 1) 0) xs r u
            → Grown buf new place xs next → next ≤ place + 22 → r ≤ m + (get_or ns i 0 + get_or ns (i + 1) 0) → Walking b k n cs ns old new next (i + 1 + 1) r u
        walking-gap {xs} f g short small =
            let a = gap_at w.standing l z in
            record {
              done = w.done ++ xs;
              text = w.text ∙ rw (a.tokens, f (get_or cs (i + 1) 0) (drop (i + 1 + 1) (paired cs ns)) a.run) (sym (append_assoc w.done xs _));
              grown = grown-on w.done xs w.grown g;
              standing = standing-next (standing-next w.standing l) a.inside;
              low = omega (arith, w.low);
              few = omega (arith, rw a.tokens at w.few);
            }

        -- the gap is shown
        pub walking-shown : {new : List ℕ} {next : ℕ} → k < get_or ns i 0 → Grown buf new place (done_text b m t (get_or ns i 0)) next
            → Walking b k n cs ns old new next (i + 1 + 1) (get_or ns (i + 1) 0) false
        walking-shown h g =
            let f = gap-few in
            walking-gap (turned_apart b k m t _ _ h) g (omega (arith, g.next, done-short b m t (get_or ns i 0) (omega arith) (omega arith))) (omega arith)

    module _ (room : 11 * length cs + 52 ≤ length old) where
      pub walking-room : place + 45 ≤ length buf
      walking-room = omega (arith, w.low, w.standing.within, w.grown.long)

      pub walking-ends : length cs ≤ i → OpenedIn b k n cs ns old buf place m t
      walking-ends h = record { done = w.done; text = w.text ∙ rw (none_left cs ns i h); grown = w.grown; room = walking-room }

-- ---- the piece that is open at the end

-- a text up to it, and then its length and its star
module _ {b : Bool} {k n : ℕ} {cs ns old buf : List ℕ} {place m : ℕ} {t : Bool} (o : OpenedIn b k n cs ns old buf place m t) where
  pub opened-ends : {mid new : List ℕ} {bare next : ℕ} → Grown buf mid place (digits m) bare → Grown mid new bare (star t) next
      → Grown old new 0 (standard_from b k n false (paired cs ns)) next
  opened-ends g h = rw (o.text, append-nil) (grown-on o.done (digits m ++ star t) o.grown (grown-on (digits m) (star t) g h))
