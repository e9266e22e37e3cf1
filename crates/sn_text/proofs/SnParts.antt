-- A part of an SN text, run by run or, where no runs join, token by token.
-- Assumes nothing.
use Prim.Native.Nat.{ℕ, zero, suc, ◌+◌, ◌*◌, ◌^◌, ◌≤◌, ◌<◌}
use mathlib.Core.Path.{◌≡◌, refl, sym, ap, ◌∙◌}
use mathlib.Core.Bool.{Bool, true, false, ◌&&◌, and-false, and-eq-true_iff}
use mathlib.Core.Logic.{◌≢◌, inl, inr}
use mathlib.Core.List.{List, [], ◌∷◌, ◌++◌, map, map-append, append_assoc, append-nil}
use native.Mathlib.Nat.{suc-ne-zero}
use native.Mathlib.Numerals.{add-one}
use native.Mathlib.Omega.{arith}
use lib.Dec.{eqb, ltb, leb}
use lib.ListN.{length, take, drop, get_or, length-append, length-map}
use borrow.Author.Tests.{ltb-true, leb-true, leb-false, lt-ltb, le-ltb}
use Rattle.number.specs.Digits.{digits}
use Rattle.number.specs.Place.{Room}
use Rattle.number.proofs.Split.{split}
use Rattle.rules.specs.Bytes.{bytes}
use Rattle.rules.specs.Chart.{Token, token, class, len}
use Rattle.rules.specs.Reduced.{Item, run, item, joins, join_from, short, absorb, drop_ones}
use Rattle.rules.specs.Texts.{word, strung}
use Rattle.rules.proofs.Steps.{drop-run, simple-run, short-long}
use Rattle.rules.specs.Slices.{paired}
use Rattle.number.specs.Grown.{Grown}
use Rattle.text_buffer.specs.Buffer.{Added, goes_on}
use Rattle.text_buffer.specs.Measured.{Measured}
use Rattle.text_buffer.specs.MayFollow.{MayFollow, first_class}
use Rattle.sn_text.specs.Sn.{break_item, break_tokens, shown}
use Rattle.text_buffer.specs.Parts.{TokensBehind, PartRoom, PartWritten, PartMeasured}
use Rattle.sn_text.specs.SnParts.{OpenRun, spaced, sn_of, sn_part, sn_on, ended, long_break, join_class, TokenAt, RunAt}
use Rattle.text_buffer.specs.Runs.{run_text}
use Rattle.text_buffer.specs.Words.{side}
use Rattle.text_buffer.proofs.Bytes.{run_short}
use Rattle.text_buffer.proofs.Reading.{behind-low, run-behind}
use Rattle.rules.proofs.Pairs.{none_left, slices-next}
use Rattle.sn_text.proofs.Groups.{drop-append, after_run_lem, after-join, after-apart, break-tokens, one-shows, short-shows, long-shows}
use Rattle.text_buffer.proofs.Added.{added_none, added-room, added, grown-room, grown-added, step_room, step}
use Rattle.text_buffer.specs.declared.buffer.Left.{Left}
use Rattle.text_buffer.specs.declared.run.Run.{Run}

-- ---- a run first, so something is shown

module _ (k : ℕ) where
  run-absorbed : (t : Token) (ts : List Token) → class t ≢ 0 → first_class (absorb k (t ∷ ts)) ≢ 0
  run-absorbed t [] r = r
  run-absorbed t (u ∷ ts) r = split (short k u) (λ e. rw e r) (λ e. rw e r)

  run-joined : (t : Token) (ts : List Token) → class t ≢ 0 → first_class (absorb k (join_from k t ts)) ≢ 0
  run-joined t [] r = r
  run-joined t (u ∷ []) r = run-absorbed t (u ∷ []) r
  run-joined t (u ∷ v ∷ ts) r =
      split (joins k t u v)
      (λ e. rw e (run-joined (token (class t) (len t + len u + len v) true) ts r))
      (λ e. rw e (run-absorbed t (join_from k u (v ∷ ts)) r))

some_left : (ts : List Token) → first_class ts ≢ 0 → 0 < length (drop_ones ts)
some_left [] r = absurd (r refl)
some_left (t ∷ ts) r = rw (drop-run t ts r) (omega arith)

pub some-shown : (k : ℕ) (t : Token) (ts : List Token) → class t ≢ 0 → 0 < length (shown k (t ∷ ts))
some-shown k t ts r = some_left (absorb k (join_from k t ts)) (run-joined k t ts r)

-- ---- items before others

spaced-more : (xs ys : List Item) → 0 < length ys → strung (λ y. bytes " " ++ word y) (xs ++ ys) ≡ bytes " " ++ spaced (xs ++ ys)
spaced-more [] [] h = absurd (omega arith)
spaced-more [] (y ∷ ys) h = refl
spaced-more (x ∷ xs) ys h = refl

spaced-before : (xs ys : List Item) → 0 < length ys → spaced (xs ++ ys) ≡ strung (λ y. word y ++ bytes " ") xs ++ spaced ys
spaced-before [] ys h = refl
spaced-before (x ∷ xs) ys h =
    rw (spaced-more xs ys h, spaced-before xs ys h) (simp append_assoc)

pub shown-before : (k : ℕ) (ts us : List Token) → 0 < length us
    → spaced (map (item (break_item k)) (ts ++ us)) ≡ ended k ts ++ spaced (map (item (break_item k)) us)
shown-before k ts us h = rw map-append (spaced-before (map (item (break_item k)) ts) (map (item (break_item k)) us) (rw length-map h))

-- ---- a run of class d joins one of class c over a break of g

pub between : (m g k : ℕ) → (ltb m g && leb g k) ≡ true → (m < g) × (g ≤ k)
between m g k e = let both = (and-eq-true_iff _ _).0 e in (ltb-true m g both.0, leb-true g k both.1)

pub joins-over : (k c g : ℕ) {d : ℕ} → d ≢ 0 → d ≡ join_class k c g → (1 ≤ g) × (g ≤ k) × (d ≡ c)
joins-over k c g r e =
    split (ltb 0 g && leb g k)
    (λ l. let near = between 0 g k l in (near.0, near.1, rw l at e))
    (λ l. absurd (r (rw l at e)))

-- ---- an open run t, a break of g (0: none), and a run u

module _ (k : ℕ) (t : Token) (rt : class t ≢ 0) (u : Token) (us : List Token) where
  pub joined-text : (g : ℕ) → class u ≢ 0 → class u ≡ join_class k (class t) g
      → sn_of k (t ∷ (break_tokens g ++ (u ∷ us))) ≡ sn_of k (token (class t) (len t + (g + len u)) true ∷ us)
  joined-text g r e =
      let near = joins-over k (class t) g r e in
      let sum : len t + (g + len u) ≡ len t + g + len u = omega arith in
      rw (sum, break-tokens g near.0)
      (ap (λ ts. spaced (map (item (break_item k)) ts)) (after-join k t rt (token 0 g false) u us refl near.1 near.2))

  apart-shown : (g : ℕ) → class u ≢ 0 → class u ≢ join_class k (class t) g
      → shown k (t ∷ (break_tokens g ++ (u ∷ us))) ≡ shown k (t ∷ break_tokens g) ++ shown k (u ∷ us)
  apart-shown zero r d = after_run_lem k t rt (u ∷ us) r ∙ rw (drop-run t [] rt)
  apart-shown (suc g) r d =
      after-apart k t rt (token 0 (suc g) false) (u ∷ us) r
      (split (leb (suc g) k) (λ l. inr (rw (lt-ltb 0 (suc g) (omega arith), l) at d)) (λ l. inl (leb-false (suc g) k l)))

  pub apart-text : (g : ℕ) → class u ≢ 0 → class u ≢ join_class k (class t) g
      → sn_of k (t ∷ (break_tokens g ++ (u ∷ us))) ≡ ended k (shown k (t ∷ break_tokens g)) ++ sn_of k (u ∷ us)
  apart-text g r d = rw (apart-shown g r d) (shown-before k (shown k (t ∷ break_tokens g)) (shown k (u ∷ us)) (some-shown k u us r))

-- ---- the next run of two slices, and the break before it

module _ {cs ns : List ℕ} {i : ℕ} (l : length cs ≡ length ns) (a : TokenAt cs ns i) where
  first : drop i (paired cs ns) ≡ token (get_or cs i 0) (get_or ns i 0) false ∷ drop (suc i) (paired cs ns)
  first = slices-next cs ns i l a.inside

  pub run-next : get_or cs i 0 ≢ 0 → RunAt cs ns i 0 (get_or cs i 0) (get_or ns i 0) (i + 1)
  run-next r =
      rw add-one
      (record {
        rest = first;
        run = r;
        behind = (rw first at a.behind).1;
        on = omega arith;
        within = a.inside;
      })

  module _ (b : get_or cs i 0 ≡ 0) where
    left_behind : (1 ≤ get_or ns i 0) × MayFollow 0 (drop (suc i) (paired cs ns))
    left_behind = let f = rw (first, b) at a.behind in ((f.0 refl).1, f.1)

    pub run_inside : i + 1 < length cs
    run_inside =
        split (leb (length cs) (suc i))
        (λ e. absurd ((rw (none_left cs ns (suc i) (leb-true _ _ e)) at left_behind.1).0 refl))
        (λ e. rw add-one (leb-false _ _ e))

    second : drop (suc i) (paired cs ns) ≡ token (get_or cs (suc i) 0) (get_or ns (suc i) 0) false ∷ drop (suc (suc i)) (paired cs ns)
    second = slices-next cs ns (suc i) l (rw add-one at run_inside)

    pub break-next : RunAt cs ns i (get_or ns i 0) (get_or cs (i + 1) 0) (get_or ns (i + 1) 0) (i + 2)
    break-next =
        let two : i + 2 ≡ suc (suc i) = omega arith in
        rw (add-one, two)
        (record {
          rest = rw (break-tokens (get_or ns i 0) left_behind.0) (rw b at first ∙ ap {B = List Token} (λ ts. token 0 (get_or ns i 0) false ∷ ts) second);
          run = λ e. ((rw second at left_behind.1).0 e).0 refl;
          behind = (rw second at left_behind.1).1;
          on = rw (break-tokens (get_or ns i 0) left_behind.0) (omega arith);
          within = rw add-one at run_inside;
        })

-- the next run at the place itself: no break before it
pub no-break : {cs ns : List ℕ} {i g d n next : ℕ} → RunAt cs ns i g d n next → next ≡ i + 1 → g ≡ 0
no-break {g = zero} a e = refl
no-break {g = suc g} a e = absurd (omega (arith, a.on))

-- no run joins where there is no break
pub adjacent : (k c : ℕ) {cs ns : List ℕ} {i g d n next : ℕ} → RunAt cs ns i g d n next → g ≡ 0 → d ≢ join_class k c g
adjacent k c a z e = a.run (e ∙ rw z refl)

-- ---- a part, run by run

-- the text of an open run t and of the tokens behind it: `done`, the text of a run u that is open, and that of the tokens from place i on
pub record Opened (k : ℕ) (t : Token) (cs ns done : List ℕ) (u : Token) (i : ℕ) : Type 0 where
  pub whole : (more : List Token) → sn_part k t cs ns more ≡ done ++ sn_of k (u ∷ (drop i (paired cs ns) ++ more))
  pub run : class u ≢ 0
  pub behind : MayFollow (class u) (drop i (paired cs ns))
  pub small : len u ≤ len t + 4294967296 * i
  pub within : i ≤ length cs

pub opened-starts : (k : ℕ) (t : Token) {cs ns : List ℕ} → TokensBehind (class t) cs ns → Opened k t cs ns [] t 0
opened-starts k t h = record { whole = λ more. refl; run = h.run; behind = h.behind; small = omega arith; within = omega arith }

module _ {k : ℕ} {t : Token} {cs ns done : List ℕ} {u : Token} {i : ℕ} (o : Opened k t cs ns done u i) where
  pub opened-low : class u ≤ 4
  opened-low = behind-low (class u) (drop i (paired cs ns)) o.behind

  pub opened-ends : length cs ≤ i → OpenRun t cs u
  opened-ends h = record { run = o.run; low = opened-low; small = omega (arith, o.small, o.within) }

  pub opened-whole : length cs ≤ i → (more : List Token) → sn_part k t cs ns more ≡ done ++ sn_on k u more
  opened-whole h more = o.whole more ∙ rw (none_left cs ns i h)

  module _ {g d n next : ℕ} (a : RunAt cs ns i g d n next) where
    pub on-text : (more : List Token)
        → sn_part k t cs ns more ≡ done ++ sn_of k (u ∷ (break_tokens g ++ (token d n false ∷ (drop next (paired cs ns) ++ more))))
    on-text more = o.whole more ∙ rw (a.rest, append_assoc)

    pub opened-joins : d ≡ join_class k (class u) g → g < 4294967296 → n < 4294967296 → Opened k t cs ns done (token (class u) (len u + (g + n)) true) next
    opened-joins e x y =
        let near = joins-over k (class u) g a.run e in
        record {
          whole = λ more. on-text more ∙ rw (joined-text k u o.run (token d n false) (drop next (paired cs ns) ++ more) g a.run e);
          run = o.run;
          behind = rw near.2 at a.behind;
          small = omega (arith, o.small, rw (break-tokens g near.0) at a.on);
          within = a.within;
        }

    pub next-whole : d ≢ join_class k (class u) g → (more : List Token)
        → sn_part k t cs ns more ≡ (done ++ ended k (shown k (u ∷ break_tokens g))) ++ sn_of k (token d n false ∷ (drop next (paired cs ns) ++ more))
    next-whole e more =
        on-text more
        ∙ rw (apart-text k u o.run (token d n false) (drop next (paired cs ns) ++ more) g a.run e)
        (sym (append_assoc done (ended k (shown k (u ∷ break_tokens g))) (sn_of k (token d n false ∷ (drop next (paired cs ns) ++ more)))))

    pub opened-next : d ≢ join_class k (class u) g → n < 4294967296
        → Opened k t cs ns (done ++ ended k (shown k (u ∷ break_tokens g))) (token d n false) next
    opened-next e x = record { whole = next-whole e; run = a.run; behind = a.behind; small = omega (arith, a.on); within = a.within }

-- ---- a run and a break over which it does not join

pub run-item : (f : ℕ → Item) (c n : ℕ) (s : Bool) → c ≢ 0 → item f (token c n s) ≡ run c n s
run-item f zero n s r = absurd (r refl)
run-item f (suc c) n s r = refl

module _ (k c n : ℕ) (s : Bool) (g : ℕ) (r : c ≢ 0) where
  pub alone-text : ended k (token c n s ∷ []) ≡ word (run c n s) ++ (32 ∷ [])
  alone-text = rw (run-item (break_item k) c n s r, append-nil)

  pub near-shown : (ltb 1 g && leb g k) ≡ true → shown k (token c n s ∷ break_tokens g) ≡ token c (n + g) true ∷ long_break k g
  near-shown e =
      let near = between 1 g k e in
      rw (lt-ltb 1 g near.0, le-ltb k g near.1, break-tokens g (omega (arith, near.0))) (short-shows k c n s g r near.0 near.1)

  one-shown : (g : ℕ) → g ≤ 1 → shown k (token c n s ∷ break_tokens g) ≡ token c n s ∷ []
  one-shown zero h = drop-run (token c n s) [] r
  one-shown (suc g) h = one-shows k c n s (suc g) r (omega arith)

  pub else-shown : (ltb 1 g && leb g k) ≡ false → shown k (token c n s ∷ break_tokens g) ≡ token c n s ∷ long_break k g
  else-shown e =
      split (leb g 1)
      (λ z. rw (le-ltb 1 g (leb-true g 1 z)) (one-shown g (leb-true g 1 z)))
      (λ z.
      let h = leb-false g 1 z in
      let l : k < g = leb-false g k (rw (lt-ltb 1 g h) at e) in
      let b = break-tokens g (omega arith) in
      rw (lt-ltb 1 g h, lt-ltb k g l, b) (rw b at (long-shows k c n s g r h l)))

  pub group-short : g ≤ k → ended k (token c n s ∷ long_break k g) ≡ word (run c n s) ++ (32 ∷ [])
  group-short l = rw (le-ltb k g l, and-false (ltb 1 g)) alone-text

  -- no break
  pub adjacent-text : g ≡ 0 → word (run c n s) ++ (32 ∷ []) ≡ ended k (shown k (token c n s ∷ break_tokens g))
  adjacent-text z = sym (ap (ended k) (else-shown (rw z refl)) ∙ group-short (omega (arith, z)))

-- a run is added, and a space: at most 24 bytes
pub ended-most : (t : Run) {old new : List ℕ} {k r : ℕ} → t.length < 2 ^ 64 → Grown old new k (run_text t ++ bytes " ") r → r ≤ k + 24
ended-most t h g = omega (arith, g.next, length-append (run_text t) (bytes " "), run_short t.class t.length t.starred h)

-- ---- a token

pub token-text : (c n : ℕ) → (eqb c 0 && eqb n 1) ≡ false
    → ended 0 (drop_ones (token c n false ∷ [])) ≡ side 40 c ++ (digits n ++ (side 41 c ++ (32 ∷ [])))
token-text zero n e = rw e (simp (append_assoc, append-nil))
token-text (suc c) n e = rw e (simp (append_assoc, append-nil))

pub token-none : (c n : ℕ) → (eqb c 0 && eqb n 1) ≡ true → ended 0 (drop_ones (token c n false ∷ [])) ≡ []
token-none c n e = rw e

-- ---- a part is written, run by run

pub record Writing (k : ℕ) (t : Token) (cs ns old out : List ℕ) (from : Left) (buf new : List ℕ) (u : Token) (to : Left) (i : ℕ) : Type 0 where
  pub done : List ℕ
  pub opened : Opened k t cs ns done u i
  pub wrote : Added old out from done buf new to

pub writing-starts : (k : ℕ) (t : Token) {cs ns : List ℕ} (buf out : List ℕ) (from : Left)
    → TokensBehind (class t) cs ns → from.left ≤ 1984 → Writing k t cs ns buf out from buf out t from 0
writing-starts k t buf out from h l = record { done = []; opened = opened-starts k t h; wrote = added_none l }

module _ {k : ℕ} {t : Token} {cs ns old out : List ℕ} {from : Left} {buf mid : List ℕ} {u : Token} {to : Left} {i : ℕ}
    (w : Writing k t cs ns old out from buf mid u to i) where
  pub writing-ends : length cs ≤ i → PartWritten (sn_part k t cs ns) (sn_on k u) old out from buf mid to × OpenRun t cs u
  writing-ends h = (record { done = w.done; whole = opened-whole w.opened h; wrote = w.wrote }, opened-ends w.opened h)

  module _ {g d n next : ℕ} (a : RunAt cs ns i g d n next) where
    pub writing-joins : d ≡ join_class k (class u) g → g < 4294967296 → n < 4294967296
        → Writing k t cs ns old out from buf mid (token (class u) (len u + (g + n)) true) to next
    writing-joins e x y = record { done = w.done; opened = opened-joins w.opened a e x y; wrote = w.wrote }

    module _ (e : d ≢ join_class k (class u) g) {new : List ℕ} {full : ℕ}
        (h : Grown buf new to.left (ended k (shown k (u ∷ break_tokens g))) full) where
      pub writing-room : PartRoom (sn_part k t cs ns) old out from → Room mid to.place (take full new)
      writing-room r = step_room w.done w.wrote _ h _ (rw (next-whole w.opened a e r.more) at r.room)

      pub writing-next : n < 4294967296 → {last : List ℕ} {end : Left} → Added new mid (goes_on to.place full) [] new last end
          → Writing k t cs ns old out from new last (token d n false) end next
      writing-next x f =
          record {
            done = w.done ++ ended k (shown k (u ∷ break_tokens g));
            opened = opened-next w.opened a e x;
            wrote = step w.done w.wrote _ h f;
          }

-- ---- with the limit 0 nothing joins: token by token

first_run : (ts more : List Token) → first_class ts ≢ 0 → first_class (ts ++ more) ≢ 0
first_run [] more r = absurd (r refl)
first_run (t ∷ ts) more r = r

run-follows : (t u : Token) (us : List Token) → class u ≢ 0 → shown 0 (t ∷ u ∷ us) ≡ drop_ones (t ∷ []) ++ shown 0 (u ∷ us)
run-follows t u us r = ap drop_ones (simple-run 0 t u us r) ∙ drop-append (t ∷ []) (absorb 0 (join_from 0 u us))

module _ (t : Token) (n : ℕ) (h : 1 ≤ n) where
  abbrev gone : Token
  gone = token 0 n false

  break-follows : (us : List Token) → class t ≢ 0 → first_class us ≢ 0 → shown 0 (t ∷ gone ∷ us) ≡ drop_ones (t ∷ []) ++ shown 0 (gone ∷ us)
  break-follows [] rt r = absurd (r refl)
  break-follows (v ∷ us) rt r =
      after-apart 0 t rt gone (v ∷ us) r (inl h)
      ∙ ap {B = List Token} (λ l. l ++ shown 0 (v ∷ us)) two
      ∙ append_assoc (drop_ones (t ∷ [])) (drop_ones (gone ∷ [])) (shown 0 (v ∷ us))
      ∙ ap {B = List Token} (λ l. drop_ones (t ∷ []) ++ l) (sym (run-follows gone v us r))
    where
      two : drop_ones (absorb 0 (t ∷ gone ∷ [])) ≡ drop_ones (t ∷ []) ++ drop_ones (gone ∷ [])
      two = rw (short-long 0 gone h) (drop-append (t ∷ []) (gone ∷ []))

-- a token before others of a part, and what follows the part
module _ (t : Token) (d n : ℕ) (us more : List Token) (b : MayFollow (class t) (token d n false ∷ us)) where
  next-shown : shown 0 (t ∷ ((token d n false ∷ us) ++ more)) ≡ drop_ones (t ∷ []) ++ shown 0 ((token d n false ∷ us) ++ more)
  next-shown = go d b
    where
      go : (d : ℕ) → MayFollow (class t) (token d n false ∷ us)
          → shown 0 (t ∷ ((token d n false ∷ us) ++ more)) ≡ drop_ones (t ∷ []) ++ shown 0 ((token d n false ∷ us) ++ more)
      go zero b = break-follows t n (b.0 refl).1 (us ++ more) (b.0 refl).0 (first_run us more (run-behind us b.1))
      go (suc d) b = run-follows t (token (suc d) n false) (us ++ more) (suc-ne-zero d)

some-follow : (d n : ℕ) (us more : List Token) → MayFollow d us → 0 < length (shown 0 ((token d n false ∷ us) ++ more))
some-follow (suc d) n us more b = some-shown 0 (token (suc d) n false) (us ++ more) (suc-ne-zero d)
some-follow zero n [] more b = absurd (b.0 refl)
some-follow zero n (token e m s ∷ us) more b =
    let r : e ≢ 0 = run-behind (token e m s ∷ us) b in
    rw (run-follows (token 0 n false) (token e m s) (us ++ more) r, length-append)
    (omega (arith, some-shown 0 (token e m s) (us ++ more) r))

pub next-text : (t : Token) (d n : ℕ) (us more : List Token) → MayFollow (class t) (token d n false ∷ us)
    → sn_of 0 (t ∷ ((token d n false ∷ us) ++ more)) ≡ ended 0 (drop_ones (t ∷ [])) ++ sn_of 0 ((token d n false ∷ us) ++ more)
next-text t d n us more b =
    rw (next-shown t d n us more b) (shown-before 0 (drop_ones (t ∷ [])) (shown 0 ((token d n false ∷ us) ++ more)) (some-follow d n us more b.1))

-- the token at place i, behind which another follows
module _ (cs ns : List ℕ) (i c : ℕ) (b : MayFollow c (drop i (paired cs ns))) (l : length cs ≡ length ns) (h : i + 1 < length cs) where
  here : drop i (paired cs ns) ≡ token (get_or cs i 0) (get_or ns i 0) false ∷ drop (suc i) (paired cs ns)
  here = slices-next cs ns i l (omega arith)

  there : drop (suc i) (paired cs ns) ≡ token (get_or cs (suc i) 0) (get_or ns (suc i) 0) false ∷ drop (suc (suc i)) (paired cs ns)
  there = slices-next cs ns (suc i) l (omega arith)

  behind-on : MayFollow (get_or cs i 0) (drop (suc i) (paired cs ns))
  behind-on = (rw here at b).1

  text-on : (more : List Token) → sn_of 0 (drop i (paired cs ns) ++ more)
      ≡ ended 0 (drop_ones (token (get_or cs i 0) (get_or ns i 0) false ∷ [])) ++ sn_of 0 (drop (suc i) (paired cs ns) ++ more)
  text-on more =
      rw (here, there)
      (next-text (token (get_or cs i 0) (get_or ns i 0) false) (get_or cs (suc i) 0) (get_or ns (suc i) 0) (drop (suc (suc i)) (paired cs ns)) more
      (rw there at behind-on))

-- the last token
last-token : (cs ns : List ℕ) (m : ℕ) → length cs ≡ length ns → suc m ≡ length cs → drop m (paired cs ns) ≡ token (get_or cs m 0) (get_or ns m 0) false ∷ []
last-token cs ns m l h = slices-next cs ns m l (omega arith) ∙ rw (none_left cs ns (suc m) (omega arith))

-- the open run before them
module _ (c n : ℕ) (s : Bool) {cs ns : List ℕ} (p : length cs ≡ length ns) (b : TokensBehind c cs ns) (h : length cs ≢ 0) where
  first-text : (more : List Token) → sn_part 0 (token c n s) cs ns more ≡ (word (run c n s) ++ (32 ∷ [])) ++ sn_of 0 (paired cs ns ++ more)
  first-text more =
      let e : paired cs ns ≡ token (get_or cs 0 0) (get_or ns 0 0) false ∷ drop 1 (paired cs ns) = slices-next cs ns 0 p (omega arith) in
      rw e
      (next-text (token c n s) (get_or cs 0 0) (get_or ns 0 0) (drop 1 (paired cs ns)) more (rw e at b.behind)
      ∙ rw (drop-run (token c n s) [] b.run, alone-text 0 c n s 0 b.run))

-- ---- a part is measured, token by token

-- `start` bytes and the text of the tokens: `total` bytes, and the text of those from place i on
pub record Summing (cs ns : List ℕ) (start total i : ℕ) : Type 0 where
  pub sum : (more : List Token) → start + length (sn_of 0 (paired cs ns ++ more)) ≡ total + length (sn_of 0 (drop i (paired cs ns) ++ more))
  pub earlier : ℕ
  pub behind : MayFollow earlier (drop i (paired cs ns))
  pub short : total ≤ start + 23 * i

module _ {cs ns : List ℕ} {start total i : ℕ} (w : Summing cs ns start total i) where
  pub summing-next : length cs ≡ length ns → i + 1 < length cs → {x : ℕ}
      → Measured (ended 0 (drop_ones (token (get_or cs i 0) (get_or ns i 0) false ∷ []))) 23 x
      → Summing cs ns start (total + x) (i + 1)
  summing-next l h {x} m =
      let chunk = ended 0 (drop_ones (token (get_or cs i 0) (get_or ns i 0) false ∷ [])) in
      rw add-one
      (record {
        sum = λ more. omega (
          arith,
          w.sum more,
          ap {B = ℕ} length (text-on cs ns i w.earlier w.behind l h more),
          length-append chunk (sn_of 0 (drop (suc i) (paired cs ns) ++ more)),
          m.number,
        );
        earlier = get_or cs i 0;
        behind = behind-on cs ns i w.earlier w.behind l h;
        short = omega (arith, w.short, m.short);
      })

  pub summing-ends : (c n : ℕ) (s : Bool) (p : length cs ≡ length ns) (b : TokensBehind c cs ns) (h : length cs ≢ 0) → {x : ℕ} → Measured (word (run c n s)) 23 x → start ≡ x + 1
      → (m : ℕ) → i ≡ m → suc m ≡ length cs → get_or ns m 0 < 4294967296
      → PartMeasured (sn_part 0 (token c n s) cs ns) (sn_on 0 (token (get_or cs m 0) (get_or ns m 0) false)) (47 * length cs) total
      × OpenRun (token c n s) cs (token (get_or cs m 0) (get_or ns m 0) false)
  summing-ends c n s p b h {x} r z m e f y =
      let last : drop i (paired cs ns) ≡ token (get_or cs m 0) (get_or ns m 0) false ∷ [] = rw e (last-token cs ns m p f) in (
        record {
          whole = λ more. omega (
            arith,
            ap {B = ℕ} length (first-text c n s p b h more),
            length-append (word (run c n s) ++ (32 ∷ [])) (sn_of 0 (paired cs ns ++ more)),
            length-append (word (run c n s)) (32 ∷ []),
            rw last at (w.sum more),
            r.number,
            z,
          );
          short = omega (arith, w.short, r.short, z, e, f);
        },
        record { run = (rw last at w.behind).1.0; low = (rw last at w.behind).1.1; small = omega arith },
      )

-- ---- a part is written, token by token

-- the text of the tokens: `done`, and the text of those from place i on
pub record Listing (cs ns old out : List ℕ) (from : Left) (buf new : List ℕ) (to : Left) (i : ℕ) : Type 0 where
  pub done : List ℕ
  pub whole : (more : List Token) → sn_of 0 (paired cs ns ++ more) ≡ done ++ sn_of 0 (drop i (paired cs ns) ++ more)
  pub earlier : ℕ
  pub behind : MayFollow earlier (drop i (paired cs ns))
  pub wrote : Added old out from done buf new to

pub listing-low : {cs ns old out : List ℕ} {from : Left} {buf mid : List ℕ} {to : Left} {i : ℕ} → Listing cs ns old out from buf mid to i
    → length cs ≡ length ns → i + 1 < length cs → get_or cs i 0 ≤ 4
listing-low {cs} {ns} {i = i} w l h = behind-low (get_or cs i 0) (drop (suc i) (paired cs ns)) (behind-on cs ns i w.earlier w.behind l h)

module _ {cs ns old out : List ℕ} {from : Left} {buf mid : List ℕ} {to : Left} {i : ℕ} (w : Listing cs ns old out from buf mid to i)
    (l : length cs ≡ length ns) (h : i + 1 < length cs) {new : List ℕ} {full : ℕ}
    (g : Grown buf new to.left (ended 0 (drop_ones (token (get_or cs i 0) (get_or ns i 0) false ∷ []))) full) where
  abbrev chunk : List ℕ
  chunk = ended 0 (drop_ones (token (get_or cs i 0) (get_or ns i 0) false ∷ []))

  on-whole : (more : List Token) → sn_of 0 (paired cs ns ++ more) ≡ (w.done ++ chunk) ++ sn_of 0 (drop (suc i) (paired cs ns) ++ more)
  on-whole more = w.whole more ∙ ap (λ (l : List ℕ). w.done ++ l) (text-on cs ns i w.earlier w.behind l h more) ∙ sym (append_assoc w.done chunk _)

  pub listing-room : PartRoom (λ more. sn_of 0 (paired cs ns ++ more)) old out from → Room mid to.place (take full new)
  listing-room r = step_room w.done w.wrote chunk g _ (rw (on-whole r.more) at r.room)

  pub listing-next : {last : List ℕ} {end : Left} → Added new mid (goes_on to.place full) [] new last end → Listing cs ns old out from new last end (i + 1)
  listing-next f =
      rw add-one
      (record {
        done = w.done ++ chunk;
        whole = on-whole;
        earlier = get_or cs i 0;
        behind = behind-on cs ns i w.earlier w.behind l h;
        wrote = step w.done w.wrote chunk g f;
      })

-- the open run comes before them
module _ (c n : ℕ) (s : Bool) {cs ns : List ℕ} (p : length cs ≡ length ns) (b : TokensBehind c cs ns) (h : length cs ≢ 0) {buf new : List ℕ} {k full : ℕ}
    (g : Grown buf new k (word (run c n s) ++ (32 ∷ [])) full) where
  abbrev front : List ℕ
  front = word (run c n s) ++ (32 ∷ [])

  abbrev opens : (more : List Token) → sn_part 0 (token c n s) cs ns more ≡ front ++ sn_of 0 (paired cs ns ++ more)
  opens = first-text c n s p b h

  pub first-room : {out : List ℕ} {place : ℕ} → PartRoom (sn_part 0 (token c n s) cs ns) buf out (goes_on place k) → Room out place (take full new)
  first-room r = grown-room front g _ (rw (opens r.more) at r.room)

  module _ {out last : List ℕ} {place : ℕ} {to : Left} (f : Added new out (goes_on place full) [] new last to) where
    pub others-room : PartRoom (sn_part 0 (token c n s) cs ns) buf out (goes_on place k) → PartRoom (λ more. sn_of 0 (paired cs ns ++ more)) new last to
    others-room r = record { more = r.more; room = added-room front (grown-added front g f) _ (rw (opens r.more) at r.room) }

    -- the token at m is the last
    pub listing-ends : {buf' new' : List ℕ} {to' : Left} {i : ℕ} → Listing cs ns new last to buf' new' to' i → (m : ℕ) → i ≡ m → suc m ≡ length cs
        → get_or ns m 0 < 4294967296
        → PartWritten (sn_part 0 (token c n s) cs ns) (sn_on 0 (token (get_or cs m 0) (get_or ns m 0) false)) buf out (goes_on place k) buf' new' to'
        × OpenRun (token c n s) cs (token (get_or cs m 0) (get_or ns m 0) false)
    listing-ends {i = i} w m e l x =
        let last : drop i (paired cs ns) ≡ token (get_or cs m 0) (get_or ns m 0) false ∷ [] = rw e (last-token cs ns m p l) in (
          record {
            done = front ++ w.done;
            whole = λ more. opens more ∙ ap (λ (l : List ℕ). front ++ l) (w.whole more) ∙ sym (append_assoc front w.done _) ∙ rw last;
            wrote = added front (grown-added front g f) w.done w.wrote;
          },
          record { run = (rw last at w.behind).1.0; low = (rw last at w.behind).1.1; small = omega arith },
        )

-- ---- a part is measured, run by run

-- `total` bytes are counted of it
pub record Counting (k : ℕ) (t : Token) (cs ns : List ℕ) (u : Token) (total i : ℕ) : Type 0 where
  pub done : List ℕ
  pub opened : Opened k t cs ns done u i
  pub number : total ≡ length done
  pub short : total ≤ 47 * i

module _ {k : ℕ} {t : Token} {cs ns : List ℕ} {u : Token} {total i : ℕ} (w : Counting k t cs ns u total i) where
  pub counting-ends : length cs ≤ i → PartMeasured (sn_part k t cs ns) (sn_on k u) (47 * length cs) total × OpenRun t cs u
  counting-ends h = (
    record {
      whole = λ more. omega (arith, w.number, ap length (opened-whole w.opened h more), length-append w.done (sn_on k u more));
      short = omega (arith, w.short, w.opened.within);
    },
    opened-ends w.opened h,
  )

  module _ {g d n next : ℕ} (a : RunAt cs ns i g d n next) where
    pub counting-joins : d ≡ join_class k (class u) g → g < 4294967296 → n < 4294967296 → Counting k t cs ns (token d (len u + (g + n)) true) (total + 0) next
    counting-joins e x y =
        rw (joins-over k (class u) g a.run e).2
        (record {
          done = w.done;
          opened = opened-joins w.opened a e x y;
          number = omega (arith, w.number);
          short = omega (arith, w.short, a.on);
        })

    pub counting-next : d ≢ join_class k (class u) g → n < 4294967296 → {r : ℕ} → Measured (ended k (shown k (u ∷ break_tokens g))) 47 r
        → Counting k t cs ns (token d n false) (total + r) next
    counting-next e x m =
        record {
          done = w.done ++ ended k (shown k (u ∷ break_tokens g));
          opened = opened-next w.opened a e x;
          number = omega (arith, w.number, m.number, length-append w.done (ended k (shown k (u ∷ break_tokens g))));
          short = omega (arith, w.short, m.short, a.on);
        }
