-- Standard texts part by part: a step over one token or some, the pieces that are done, a part written and measured.
-- Assumes nothing.
use Prim.Native.Nat.{ℕ, zero, suc, ◌+◌, ◌*◌, ◌<◌, ◌≤◌}
use mathlib.Core.Path.{◌≡◌, refl, sym, ap, ◌∙◌}
use mathlib.Core.Bool.{Bool, true, false, cond, ◌||◌, ◌&&◌}
use mathlib.Core.Logic.{◌≢◌, inl, inr}
use mathlib.Core.List.{List, [], ◌∷◌, ◌++◌, map, append_assoc, append-nil}
use native.Mathlib.Numerals.{add-one}
use native.Mathlib.Omega.{arith}
use lib.Dec.{eqb, ltb}
use lib.ListN.{length, drop, take, get_or, set, length-append, length-set}
use lib.Seq.{get_or-set_same, get_or-set_other}
use denote.Ref.{Bor}
use Rattle.std.specs.Prelude.{Option, Some, None}
use Rattle.std.specs.Slice.Iter.{chunks_rest, chunks_size, chunks_steps}
use Rattle.std.specs.declared.iter.Zip.{Zip}
use Rattle.std.specs.declared.slice.Chunks.{Chunks}
use Rattle.std.specs.Iterator.Adapters.{zip_first, zip_second}
use Rattle.std.proofs.lemmas.Iterator.{zips}
use borrow.Author.Tests.{eqb-true, eqb-false, ltb-true, ltb-false, lt-ltb, le-ltb, ne_eqb}
use Rattle.number.specs.Place.{Room}
use Rattle.number.proofs.Place.{room-first}
use Rattle.number.proofs.Split.{split}
use Rattle.rules.proofs.Pairs.{slices-next, none_left}
use Rattle.rules.specs.Chart.{Token, token}
use Rattle.rules.specs.Reduced.{item}
use Rattle.rules.specs.Texts.{part, strung}
use Rattle.rules.specs.Slices.{paired}
use Rattle.text_buffer.specs.Measured.{Measured}
use Rattle.text_buffer.specs.MayFollow.{MayFollow}
use Rattle.text_buffer.specs.Buffer.{Added}
use Rattle.standard_text.specs.Standard.{gap_item, standard_from, standard_part}
use Rattle.text_buffer.specs.Parts.{PartMeasured, PartRoom, PartWritten, TokensBehind}
use Rattle.standard_text.specs.Filled.{done_text, done_texts, Filled}
use Rattle.standard_text.specs.declared.piece.DonePieces.{DonePieces}
use Rattle.standard_text.specs.declared.piece.Piece.{Piece}
use Rattle.text_buffer.specs.declared.buffer.Left.{Left}
use Rattle.text_buffer.proofs.Added.{added_none, added-room, added}
use Rattle.standard_text.proofs.Pieces.{after_run_lem, after-over, after-apart, none_before}

-- ---- the text after an open piece, by the token that follows

abbrev shown_text : Bool → List Token → List ℕ
shown_text b l = strung part (map (item (gap_item b)) l)

module _ (b : Bool) (k n : ℕ) (s : Bool) where
  pub run-text : (c m : ℕ) (ts : List Token) → c ≢ 0 → standard_from b k n s (token c m false ∷ ts) ≡ standard_from b k (n + m) s ts
  run-text c m ts h = ap (shown_text b) (after_run_lem k n s c m ts h)

  module _ (g c m : ℕ) (ts : List Token) (h : c ≢ 0) where
    pub over-text : g ≤ k → standard_from b k n s (token 0 g false ∷ token c m false ∷ ts) ≡ standard_from b k (n + g) true (token c m false ∷ ts)
    over-text l = ap (shown_text b) (after-over k n s g (token c m false ∷ ts) h l)

    pub apart-text : k < g
        → standard_from b k n s (token 0 g false ∷ token c m false ∷ ts) ≡ done_text b n s g ++ standard_from b k 0 false (token c m false ∷ ts)
    apart-text l =
        ap (shown_text b) (after-apart k n s g (token c m false ∷ ts) h l ∙ ap (λ (r : List Token). token 1 n s ∷ token 0 g false ∷ r) (none_before k c m ts h))
        ∙ simp append_assoc

-- ---- tokens as they may follow each other, none with a star

abbrev Bare : List Token → Type 0
Bare [] = Unit {0}
Bare (token c n s ∷ ts) = (s ≡ false) × Bare ts

bare-paired : (cs ns : List ℕ) → Bare (paired cs ns)
bare-paired [] ns = tt
bare-paired (c ∷ cs) [] = tt
bare-paired (c ∷ cs) (n ∷ ns) = (refl, bare-paired cs ns)

bare-append : (ts us : List Token) → Bare ts → Bare us → Bare (ts ++ us)
bare-append [] us h g = g
bare-append (token c n s ∷ ts) us h g = (h.0, bare-append ts us h.1 g)

pub record Follows (ts : List Token) : Type 0 where
  pub class : ℕ
  pub tokens : MayFollow class ts
  pub bare : Bare ts

pub follows-paired : (cs ns : List ℕ) (c : ℕ) → MayFollow c (paired cs ns) → Follows (paired cs ns)
follows-paired cs ns c h = record { class = c; tokens = h; bare = bare-paired cs ns }

pub follows-next : {t : Token} {ts : List Token} → Follows (t ∷ ts) → Follows ts
follows-next {t = token c n s} f = record { class = c; tokens = f.tokens.1; bare = f.bare.1 }

pub follows-back : (ts : List Token) {us : List Token} → Follows (ts ++ us) → Follows us
follows-back [] f = f
follows-back (t ∷ ts) f = follows-back ts (follows-next f)

-- a run first
pub record RunFirst (ts : List Token) : Type 0 where
  pub class : ℕ
  pub len : ℕ
  pub rest : List Token
  pub here : ts ≡ token class len false ∷ rest
  pub run : class ≢ 0

-- one stands after a gap, whatever follows
run-after : (n : ℕ) (ts more : List Token) → Follows (token 0 n false ∷ ts) → RunFirst (ts ++ more)
run-after n [] more f = absurd (f.tokens.1.0 refl)
run-after n (token c m s ∷ ts) more f =
    record { class = c; len = m; rest = ts ++ more; here = rw f.bare.1.0; run = λ e. (f.tokens.1.0 e).0 refl }

-- ---- a step: from the tokens `rest`, before which a piece of n measures and star s is open, to `left`, before which one of m and t is, xs is done

pub record Step (b : Bool) (k n : ℕ) (s : Bool) (rest : List Token) (xs : List ℕ) (m : ℕ) (t : Bool) (left : List Token) : Type 0 where
  pub whole : (more : List Token) → standard_from b k n s (rest ++ more) ≡ xs ++ standard_from b k m t (left ++ more)
  pub follows : Follows left
  pub small : m + 4294967296 * length left ≤ n + 4294967296 * length rest

-- is a token of class c and n measures a gap that is shown, with the join limit k?
abbrev pub is_shown : ℕ → ℕ → ℕ → Bool
is_shown k c n = eqb c 0 && ltb k n

-- over one token
module _ (b : Bool) (k n : ℕ) (s : Bool) (c g : ℕ) (ts : List Token) where
  turn-text : (more : List Token) → Follows (token c g false ∷ ts) → let d = is_shown k c g in
      standard_from b k n s (token c g false ∷ (ts ++ more))
      ≡ cond d (done_text b n s g) [] ++ standard_from b k (cond d 0 (n + g)) (cond d false (eqb c 0 || s)) (ts ++ more)
  turn-text more f =
      split (eqb c 0)
      (λ z. let r = run-after g ts more (rw (eqb-true c 0 z) at f) in
      split (ltb k g)
      (λ h. rw (z, h, eqb-true c 0 z, r.here) (apart-text b k n s g r.class r.len r.rest r.run (ltb-true k g h)))
      (λ h. rw (z, h, eqb-true c 0 z, r.here) (over-text b k n s g r.class r.len r.rest r.run (ltb-false k g h))))
      (λ z. rw z (run-text b k n s c g (ts ++ more) (eqb-false c 0 z)))

  turn-small : (d : Bool) → g < 4294967296 → cond d 0 (n + g) ≤ n + 4294967296
  turn-small true h = omega arith
  turn-small false h = omega arith

  pub turn : {d : Bool} {m : ℕ} {t : Bool} → Follows (token c g false ∷ ts) → g < 4294967296 → d ≡ is_shown k c g
      → m ≡ cond d 0 (n + g) → t ≡ cond d false (eqb c 0 || s) → Step b k n s (token c g false ∷ ts) (cond d (done_text b n s g) []) m t ts
  turn {d} f h e x y =
      record {
        whole = λ more. rw (x, y, e) (turn-text more f);
        follows = follows-next f;
        small = omega (arith, x, turn-small d h);
      }

  -- the same, by cases
  module _ (f : Follows (token c g false ∷ ts)) (h : g < 4294967296) where
    pub run-step : c ≢ 0 → Step b k n s (token c g false ∷ ts) [] (n + g) s ts
    run-step r = let z : eqb c 0 ≡ false = ne_eqb c 0 r in turn {d = false} f h (rw z refl) refl (rw z refl)

    pub over-step : c ≡ 0 → g ≤ k → Step b k n s (token c g false ∷ ts) [] (n + g) true ts
    over-step e o = let z : ltb k g ≡ false = le-ltb k g o in turn {d = false} f h (rw (e, z) refl) refl (rw e refl)

    pub apart-step : c ≡ 0 → k < g → Step b k n s (token c g false ∷ ts) (done_text b n s g) 0 false ts
    apart-step e o = let z : ltb k g ≡ true = lt-ltb k g o in turn {d = true} f h (rw (e, z) refl) refl refl

-- ---- a loop over the tokens in two slices

-- those from place i on
abbrev pub ahead : List ℕ → List ℕ → ℕ → List Token
ahead cs ns i = drop i (paired cs ns)

pub ahead-next : (cs ns : List ℕ) (i : ℕ) → length cs ≡ length ns → i < length cs
    → ahead cs ns i ≡ token (get_or cs i 0) (get_or ns i 0) false ∷ ahead cs ns (i + 1)
ahead-next cs ns i e l = slices-next cs ns i e l ∙ rw add-one

pub ahead-none : (cs ns : List ℕ) (i : ℕ) → length cs ≤ i → ahead cs ns i ≡ []
ahead-none = none_left

pub paired-few : (cs ns : List ℕ) → length (paired cs ns) ≤ length cs
paired-few [] ns = omega arith
paired-few (c ∷ cs) [] = omega arith
paired-few (c ∷ cs) (n ∷ ns) = omega (arith, paired-few cs ns)

-- ---- a loop over them 16 at a time

abbrev pub chunks-ahead : Zip (Chunks ℕ) (Chunks ℕ) → List Token
chunks-ahead z = paired (chunks_rest (zip_first z)) (chunks_rest (zip_second z))

pub record Sixteens (z : Zip (Chunks ℕ) (Chunks ℕ)) : Type 0 where
  pub first : chunks_size (zip_first z) ≡ 16
  pub second : chunks_size (zip_second z) ≡ 16
  pub even : length (chunks_rest (zip_first z)) ≡ length (chunks_rest (zip_second z))

pub chunks-all : (z y : Zip (Chunks ℕ) (Chunks ℕ)) (i j : Chunks ℕ) (cs ns : List ℕ) → z ≡ y → zip_first y ≡ i → zip_second y ≡ j
    → chunks_rest i ≡ cs → chunks_rest j ≡ ns → chunks_size i ≡ 16 → chunks_size j ≡ 16 → length cs ≡ length ns → Sixteens z × (chunks-ahead z ≡ paired cs ns)
chunks-all z y i j cs ns e f g a b m n l =
    (record { first = rw (e, f, m); second = rw (e, g, n); even = rw (e, f, g, a, b) l }, rw (e, f, g, a, b))

pub record NextSixteen (z : Zip (Chunks ℕ) (Chunks ℕ)) (cs ns : List ℕ) (y : Zip (Chunks ℕ) (Chunks ℕ)) : Type 0 where
  pub tokens : chunks-ahead z ≡ paired cs ns ++ chunks-ahead y
  pub even : length cs ≡ length ns
  pub few : length cs ≤ 16
  pub left : Sixteens y

paired-append : (cs ns ds ms : List ℕ) → length cs ≡ length ns → paired (cs ++ ds) (ns ++ ms) ≡ paired cs ns ++ paired ds ms
paired-append [] [] ds ms e = refl
paired-append [] (n ∷ ns) ds ms e = absurd (omega arith)
paired-append (c ∷ cs) [] ds ms e = absurd (omega arith)
paired-append (c ∷ cs) (n ∷ ns) ds ms e = ap (λ (ts : List Token). token c n false ∷ ts) (paired-append cs ns ds ms (omega arith))

pub chunks-next : (z y : Zip (Chunks ℕ) (Chunks ℕ)) (r : Option (Bor (List ℕ) × Bor (List ℕ))) (p : Bor (List ℕ) × Bor (List ℕ)) → r ≡ Some p
    → zips chunks_steps chunks_steps z r y → Sixteens z → NextSixteen z p.0.now p.1.now y
chunks-next z y r p e s h =
    let w = rw e at s in
    let a = w.0.1 in
    let b = w.1.1 in
    let even : length p.0.now ≡ length p.1.now = omega (arith, a.1, b.1, h.first, h.second, h.even) in
    record {
      tokens = rw (a.0, b.0) (paired-append p.0.now p.1.now _ _ even);
      even = even;
      few = omega (arith, a.1, h.first);
      left =
          record {
            first = w.0.0 ∙ h.first;
            second = w.1.0 ∙ h.second;
            even = omega (arith, h.even, even, ap length a.0, ap length b.0, length-append p.0.now (chunks_rest (zip_first y)), length-append p.1.now (chunks_rest (zip_second y)));
          };
    }

pub chunks-none : (z y : Zip (Chunks ℕ) (Chunks ℕ)) (r : Option (Bor (List ℕ) × Bor (List ℕ))) → r ≡ None
    → zips chunks_steps chunks_steps z r y → Sixteens z → chunks-ahead z ≡ []
chunks-none z y r e s h =
    elim (rw e at s) [
      | inl w ↦ none (chunks_rest (zip_first z)) (chunks_rest (zip_second z)) w.1.1.0
      | inr w ↦ none (chunks_rest (zip_first z)) (chunks_rest (zip_second z)) (h.even ∙ w.1.1.0)
    ]
  where
    none : (cs ns : List ℕ) → length cs ≡ 0 → paired cs ns ≡ []
    none [] ns l = refl
    none (c ∷ cs) ns l = absurd (omega arith)

-- ---- the pieces that are done

-- one stored at place i
abbrev pub stored : DonePieces → ℕ → ℕ → Bool → ℕ → DonePieces
stored d i n t g = record { lengths = set d.lengths i n; stars = set d.stars i t; gaps = set d.gaps i g }

-- there are 16 places
pub record Long (d : DonePieces) : Type 0 where
  pub lengths : length d.lengths ≡ 16
  pub stars : length d.stars ≡ 16
  pub gaps : length d.gaps ≡ 16

pub stored-long : (d : DonePieces) (i n : ℕ) (t : Bool) (g : ℕ) → Long d → Long (stored d i n t g)
stored-long d i n t g h =
    record {
      lengths = length-set d.lengths i n ∙ h.lengths;
      stars = length-set d.stars i t ∙ h.stars;
      gaps = length-set d.gaps i g ∙ h.gaps;
    }

module _ (b : Bool) (d : DonePieces) (i n : ℕ) (t : Bool) (g : ℕ) where
  kept : (j : ℕ) → j ≤ i → done_texts b j (stored d i n t g) ≡ done_texts b j d
  kept zero h = refl
  kept (suc j) h =
      let e : j ≢ i = λ x. omega arith in
      rw (kept j (omega arith), get_or-set_other d.lengths i j n 0 e, get_or-set_other d.stars i j t false e, get_or-set_other d.gaps i j g 0 e)

  -- stored after the others, and kept or not
  one_more : (shown : Bool) → Long d → i < 16
      → done_texts b (cond shown (i + 1) i) (stored d i n t g) ≡ done_texts b i d ++ cond shown (done_text b n t g) []
  one_more true h l =
      rw (
        add-one,
        kept i (omega arith),
        get_or-set_same d.lengths i n 0 (omega (arith, h.lengths)),
        get_or-set_same d.stars i t false (omega (arith, h.stars)),
        get_or-set_same d.gaps i g 0 (omega (arith, h.gaps)),
      )
  one_more false h l = rw (kept i (omega arith), append-nil)

-- the one at place i, and all n of them from that on
module _ (b : Bool) (d : DonePieces) (i : ℕ) where
  abbrev pub one_at : List ℕ
  one_at = done_text b (get_or d.lengths i 0) (get_or d.stars i false) (get_or d.gaps i 0)

  pub done-next : done_texts b (i + 1) d ≡ done_texts b i d ++ one_at
  done-next = rw add-one

  pub done-split : (n : ℕ) → i < n → (rest : List ℕ) × (done_texts b n d ≡ (done_texts b i d ++ one_at) ++ rest)
  done-split zero h = absurd (omega arith)
  done-split (suc n) h =
      split (eqb i n)
      (λ e. ([], rw (← (eqb-true i n e), append-nil)))
      (λ e. let r = done-split n (omega (arith, eqb-false i n e)) in
      let last = done_text b (get_or d.lengths n 0) (get_or d.stars n false) (get_or d.gaps n 0) in
      (r.0 ++ last, rw r.1 (append_assoc _ r.0 last)))

-- ---- the loop of `fill`: of the tokens ts, `rest` are still to come

pub record Filling (k : ℕ) (p : Piece) (ts rest : List Token) (q : Piece) (count : ℕ) (d : DonePieces) : Type 0 where
  pub whole : (b : Bool) (us more : List Token) → Follows (ts ++ us)
      → standard_from b k p.length p.starred (ts ++ (us ++ more))
      ≡ done_texts b count d ++ standard_from b k q.length q.starred (rest ++ (us ++ more))
  pub follows : (us : List Token) → Follows (ts ++ us) → Follows (rest ++ us)
  pub few : count + length rest ≤ length ts
  pub small : q.length + 4294967296 * length rest ≤ p.length + 4294967296 * length ts

pub filling-starts : {k : ℕ} {p : Piece} {ts : List Token} (d : DonePieces) → Filling k p ts ts p 0 d
filling-starts d =
    record {
      whole = λ b us more w. refl;
      follows = λ us w. w;
      few = omega arith;
      small = omega arith;
    }

module _ {k : ℕ} {p : Piece} {ts : List Token} {q : Piece} {count : ℕ} {d : DonePieces} where
  pub filling-step : {c g : ℕ} {left : List Token} → Filling k p ts (token c g false ∷ left) q count d → g < 4294967296 → Long d → count < 16
      → {shown : Bool} {r : Piece} {next : ℕ} → shown ≡ is_shown k c g → r.length ≡ cond shown 0 (q.length + g)
      → r.starred ≡ cond shown false (eqb c 0 || q.starred)
      → next ≡ cond shown (count + 1) count → Filling k p ts left r next (stored d count q.length q.starred g)
  filling-step {c} {g} {left} f h long room {shown} {r} {next} e x y z =
      let on : (b : Bool) (us : List Token) → Follows (token c g false ∷ (left ++ us))
      → Step b k q.length q.starred (token c g false ∷ (left ++ us)) (cond shown (done_text b q.length q.starred g) []) r.length r.starred (left ++ us) =
      λ b us w. turn b k q.length q.starred c g (left ++ us) w h e x y in
      record {
        whole = λ b us more w.
            f.whole b us more w ∙ rw (z, one_more b d count q.length q.starred g shown long room, append_assoc)
            (ap (λ (l : List ℕ). done_texts b count d ++ l) (rw append_assoc at ((on b us (f.follows us w)).whole more)));
        follows = λ us w. follows-next (f.follows us w);
        few = omega (arith, f.few, z, next-few shown);
        small = omega (arith, f.small, x, grown-small shown);
      }
    where
      next-few : (d : Bool) → cond d (count + 1) count ≤ count + 1
      next-few true = omega arith
      next-few false = omega arith

      grown-small : (d : Bool) → cond d 0 (q.length + g) ≤ q.length + g
      grown-small true = omega arith
      grown-small false = omega arith

pub filling-ends : {k : ℕ} {p : Piece} (cs ns : List ℕ) {q : Piece} {count : ℕ} {d : DonePieces} → Filling k p (paired cs ns) [] q count d
    → Filled k p (paired cs ns) q count d
filling-ends cs ns f =
    record {
      whole = λ b c ds ms more h. f.whole b (paired ds ms) more (record {
        class = c;
        tokens = h;
        bare = bare-append (paired cs ns) (paired ds ms) (bare-paired cs ns) (bare-paired ds ms);
      });
      few = omega (arith, f.few);
      small = omega (arith, f.small);
    }

-- the pieces that some tokens make, before those in two slices
pub filled-step : {k : ℕ} {p : Piece} {ts : List Token} {q : Piece} {count : ℕ} {d : DonePieces} (b : Bool) (cs ns : List ℕ)
    → Filled k p ts q count d → Follows (ts ++ paired cs ns)
    → Step b k p.length p.starred (ts ++ paired cs ns) (done_texts b count d) q.length q.starred (paired cs ns)
filled-step {ts = ts} b cs ns f w =
    record {
      whole = λ more. rw append_assoc (f.whole b w.class cs ns more w.tokens);
      follows = follows-back ts w;
      small = omega (arith, f.small, length-append ts (paired cs ns));
    }

-- ---- a part: the text of the tokens before `rest` was added, before which a piece of m measures and star t is open

module _ (b : Bool) (k n : ℕ) (s : Bool) (cs ns old out : List ℕ) (from : Left) where
  pub record Parted (buf new : List ℕ) (to : Left) (rest : List Token) (m : ℕ) (t : Bool) : Type 0 where
    pub follows : Follows rest
    pub small : m + 4294967296 * length rest ≤ n + 4294967296 * length cs
    pub written : PartWritten (standard_part b k n s cs ns) (λ more. standard_from b k m t (rest ++ more)) old out from buf new to

  pub part-starts : TokensBehind 1 cs ns → from.left ≤ 1984 → Parted old out from (paired cs ns) n s
  part-starts h f =
      record {
        follows = follows-paired cs ns 1 h.behind;
        small = omega (arith, paired-few cs ns);
        written = record { done = []; whole = λ more. refl; wrote = added_none f };
      }

  module _ {buf new : List ℕ} {to : Left} {rest : List Token} {m : ℕ} {t : Bool} (p : Parted buf new to rest m t) where
    module _ {xs : List ℕ} {r : ℕ} {u : Bool} {left : List Token} (f : Step b k m t rest xs r u left) where
      pub part_room : PartRoom (standard_part b k n s cs ns) old out from → Room new to.place (take to.left buf ++ xs)
      part_room h =
          let more = h.more in
          let w = p.written in
          let next = standard_from b k r u (left ++ more) in
          room-first _ next (rw (append_assoc (take to.left buf) xs next)
          (added-room w.done w.wrote _ (rw (w.whole more, f.whole more) at h.room)))

      pub part_step : {buf' new' : List ℕ} {to' : Left} → Added buf new to xs buf' new' to' → Parted buf' new' to' left r u
      part_step h =
          let w = p.written in
          record {
            follows = f.follows;
            small = omega (arith, p.small, f.small);
            written =
                record {
                  done = w.done ++ xs;
                  whole = λ more. w.whole more ∙ rw (f.whole more) (sym (append_assoc w.done _ _));
                  wrote = added w.done w.wrote xs h;
                };
          }

    pub part_end : rest ≡ [] → PartWritten (standard_part b k n s cs ns) (standard_from b k m t) old out from buf new to × (m ≤ n + 4294967296 * length cs)
    part_end h =
        let w = p.written in
        (record { done = w.done; whole = λ more. w.whole more ∙ rw h; wrote = w.wrote }, omega (arith, p.small))

-- ---- a part measured: the text of the tokens before `rest` has `total` bytes

-- nothing has no bytes
pub nothing : Measured [] 47 0
nothing = record { number = refl; short = omega arith }

module _ (b : Bool) (k n : ℕ) (s : Bool) (cs ns : List ℕ) where
  pub record Counting (total : ℕ) (rest : List Token) (m : ℕ) (t : Bool) : Type 0 where
    pub follows : Follows rest
    pub small : m + 4294967296 * length rest ≤ n + 4294967296 * length cs
    pub short : total + 47 * length rest ≤ 47 * length cs
    pub sum : (more : List Token) → length (standard_part b k n s cs ns more) ≡ total + length (standard_from b k m t (rest ++ more))

  pub counting-starts : TokensBehind 1 cs ns → Counting 0 (paired cs ns) n s
  counting-starts h =
      let l = paired-few cs ns in
      record {
        follows = follows-paired cs ns 1 h.behind;
        small = omega arith;
        short = omega arith;
        sum = λ more. omega arith;
      }

  module _ {total : ℕ} {v : Token} {left : List Token} {m : ℕ} {t : Bool} (p : Counting total (v ∷ left) m t) where
    pub counting-step : {xs : List ℕ} {x sum r : ℕ} {u : Bool} → Step b k m t (v ∷ left) xs r u left → Measured xs 47 x → sum ≡ total + x
        → Counting sum left r u
    counting-step {xs} y h e =
        record {
          follows = y.follows;
          small = omega (arith, p.small, y.small);
          short = omega (arith, p.short, h.short, e);
          sum = λ more. p.sum more ∙ rw (y.whole more, length-append xs _) (omega (arith, h.number, e));
        }

  pub counting-end : {total : ℕ} {m : ℕ} {t : Bool} → Counting total [] m t
      → PartMeasured (standard_part b k n s cs ns) (standard_from b k m t) (47 * length cs) total × (m ≤ n + 4294967296 * length cs)
  counting-end p = (record { whole = p.sum; short = omega (arith, p.short) }, omega (arith, p.small))
