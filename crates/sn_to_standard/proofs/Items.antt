-- What `read_run` and `read_break` find.
-- Assumes nothing.
use Prim.Native.Nat.{ℕ, ◌+◌, ◌≤◌, ◌<◌}
use mathlib.Core.Path.{◌≡◌, refl, sym, ap, ◌∙◌}
use mathlib.Core.Logic.{◌≢◌}
use mathlib.Core.List.{List, [], ◌∷◌, ◌++◌, append_assoc, tail-eq_of_cons-eq}
use native.Mathlib.Numerals.{add-one}
use native.Mathlib.Omega.{arith}
use lib.Dec.{eqb}
use lib.ListN.{length, drop, get_or, drop_of_length-le, length-drop}
use lib.Seq.{drop-cons}
use borrow.Author.Tests.{eqb-true, eqb-false}
use Rattle.number.proofs.Split.{split}
use Rattle.rules.specs.Texts.{mark}
use Rattle.sn_to_standard.specs.Reader.{words, first_class, expect_run}
use Rattle.sn_to_standard.specs.Items.{Fails, Within, NumberIs, NumberRead, mark_class, RunRead, BreakRead}
use Rattle.sn_to_standard.specs.declared.item.Number.{Number}
use Rattle.sn_to_standard.specs.declared.item.Item.{Item}
use Rattle.sn_to_standard.proofs.Numbers.{one_number, starts, stopped}
use Rattle.sn_to_standard.proofs.Stepping.{parted-stops, in-run, expect-fails, after-fails}

-- ---- bytes of a text

pub byte-here : (text : List ℕ) (i : ℕ) → i < length text → drop i text ≡ get_or text i 0 ∷ drop (i + 1) text
byte-here text i h = rw (add-one i) (drop-cons text i 0 h)

pub record Begins (text : List ℕ) (i b : ℕ) (rest : List ℕ) : Type 0 where
  pub within : i < length text
  pub byte : get_or text i 0 ≡ b
  pub behind : drop (i + 1) text ≡ rest

pub begins : (text : List ℕ) (i b : ℕ) (rest : List ℕ) → drop i text ≡ b ∷ rest → Begins text i b rest
begins text i b rest e =
    let h : i < length text = omega (arith, ap length e, length-drop i text) in
    let d = byte-here text i h in
    record { within = h; byte = cc; behind = cc }

-- a number that is written where one was read is that one
only-read : {text rest : List ℕ} {at n : ℕ} {r : Number} → NumberRead text at r → 1 ≤ n → n ≤ 1048576 → NumberIs (drop at text) rest n
    → (n ≡ r.value) × (rest ≡ drop r.next text)
only-read {rest = rest} {n = n} {r = r} q l m w =
    split (eqb r.value 0)
    (λ e. absurd (q.none (eqb-true r.value 0 e) n rest l m w))
    (λ e. let ne = eqb-false r.value 0 e in one_number w (q.some (omega arith)))

-- ---- a run

-- from `at` to `next` stands the mark of class k
pub record Marked (text : List ℕ) (at k next : ℕ) : Type 0 where
  pub least : 1 ≤ k
  pub most : k ≤ 4
  pub class : 1 ≤ first_class (drop at text) → first_class (drop at text) ≡ k
  pub marked : drop at text ≡ mark k ++ drop next text
  pub order : at ≤ next

module _ {text : List ℕ} {at k next : ℕ} (m : Marked text at k next) {n : Number} (r : NumberRead text next n) where
  -- the mark is not behind the number
  unclosed : ((rest : List ℕ) → 1 ≤ n.value → ¬ (drop n.next text ≡ mark k ++ rest)) → Fails (expect_run (words (drop at text)))
  unclosed f =
      expect-fails (drop at text)
      (λ c v rest i l p w.
      let q = in-run k c v (drop next text) rest m.class m.marked i (λ e. parted-stops rest p) w in
      let o = only-read r i.long l q in
      f rest (omega (arith, i.long, o.0)) (sym o.1))

  no_run_lem : (q : Item) → q.length ≡ 0 → ((rest : List ℕ) → 1 ≤ n.value → ¬ (drop n.next text ≡ mark k ++ rest)) → RunRead text at q
  no_run_lem q e f = record { most = omega arith; none = λ z. unclosed f; some = λ h. absurd (omega arith) }

  pub some-run : (end : ℕ) → drop n.next text ≡ mark k ++ drop end text → n.next ≤ end → end ≤ length text
      → RunRead text at (record { class = k; length = n.value; next = end })
  some-run end e g h =
      record {
        most = r.most;
        none = λ z. unclosed (λ rest l. absurd (omega arith));
        some = λ l. record {
          run_of = record { class-least = m.least; class-most = m.most; long = l };
          written = m.marked ∙ rw ((r.some l).written, e) (simp append_assoc);
          stops = λ o. rw (rw o at e) at (r.some l).stops;
          within = h;
          further = omega (arith, m.order, r.further l);
        };
      }

-- a byte that marks a class
marks : (b : ℕ) → mark_class b ≢ 1 → (1 ≤ mark_class b) × (mark_class b ≤ 4) × (mark (mark_class b) ≡ b ∷ [])
marks b h =
    split (eqb b 126) (λ e. rw (eqb-true b 126 e) (omega arith, omega arith, refl))
    (λ e. split (eqb b 92) (λ f. rw (eqb-true b 92 f) (omega arith, omega arith, refl))
    (λ f. split (eqb b 61) (λ g. rw (eqb-true b 61 g) (omega arith, omega arith, refl))
    (λ g. absurd (h (rw (e, f, g))))))

module _ (text : List ℕ) (at : ℕ) where
  pub run-at-end : (q : Item) → q.length ≡ 0 → at ≡ length text → RunRead text at q
  run-at-end q z h =
      let e : drop at text ≡ [] = drop_of_length-le text {i = at} (omega arith) in
      let w : Within text at = record { within = omega arith } in
      let m : Marked text at 1 at = record { least = omega arith; most = omega arith; class = rw e (λ h. refl); marked = refl; order = omega arith } in
      no_run_lem m (stopped (starts w) (rw e tt)) q z (λ rest l. absurd (omega arith))

  module _ (h : at < length text) where
    abbrev b : ℕ
    b = get_or text at 0

    class-here : 1 ≤ first_class (drop at text) → first_class (drop at text) ≡ mark_class b
    class-here = rw (byte-here text at h) (split (eqb b 40) (λ e. rw e (λ l. absurd (omega arith))) (λ e. rw e (λ l. refl)))

    pub bare : mark_class b ≡ 1 → Marked text at 1 at
    bare e = record { least = omega arith; most = omega arith; class = rw e at class-here; marked = refl; order = omega arith }

    module _ (m : mark_class b ≢ 1) {n : Number} (r : NumberRead text (at + 1) n) where
      mark_of : mark (mark_class b) ≡ b ∷ []
      mark_of = (marks b m).2

      marked-here : Marked text at (mark_class b) (at + 1)
      marked-here =
          let k = marks b m in
          record { least = k.0; most = k.1; class = class-here; marked = byte-here text at h ∙ rw mark_of; order = omega arith }

      -- there is no number, or another byte behind it
      pub no-marked : (q : Item) → q.length ≡ 0 → (1 ≤ n.value → n.next < length text → get_or text n.next 0 ≢ b) → RunRead text at q
      no-marked q z f = no_run_lem marked-here r q z (λ rest l e. let g = begins text n.next b rest (rw mark_of at e) in f l g.within g.byte)

      pub some-marked : (c : ℕ) → c ≡ mark_class b → n.next < length text → get_or text n.next 0 ≡ b
          → RunRead text at (record { class = c; length = n.value; next = n.next + 1 })
      some-marked c e l g =
          rw e (some-run marked-here r (n.next + 1) (byte-here text n.next l ∙ rw (g, mark_of)) (omega arith) (omega arith))

  -- ---- a break

  module _ {n : Number} (r : NumberRead text at n) where
    pub no-break : (q : Item) → q.length ≡ 0 → (2 ≤ n.value → n.next + 1 < length text → get_or text n.next 0 ≡ 41 → get_or text (n.next + 1) 0 ≢ 32)
        → BreakRead text at q
    no-break q z f =
        record {
          most = omega arith;
          none = λ e. after-fails (40 ∷ drop at text) refl (λ v rest l m w.
              let i : NumberIs (drop at text) (41 ∷ 32 ∷ rest) v = record { written = tail-eq_of_cons-eq (simp append_assoc at w); stops = refl } in
              let o = only-read r (omega arith) m i in
              let g = begins text n.next 41 (32 ∷ rest) (sym o.1) in
              let s = begins text (n.next + 1) 32 rest g.behind in
              f (omega (arith, o.0)) s.within g.byte s.byte);
          some = λ h. absurd (omega arith);
        }

    pub some-break : 2 ≤ n.value → n.next + 1 < length text → get_or text n.next 0 ≡ 41 → get_or text (n.next + 1) 0 ≡ 32
        → BreakRead text at (record { class = 0; length = n.value; next = n.next + 2 })
    some-break v h p s =
        let two : n.next + 1 + 1 ≡ n.next + 2 = omega arith in
        let e : drop n.next text ≡ 41 ∷ 32 ∷ drop (n.next + 2) text =
        byte-here text n.next (omega arith) ∙ rw (p, byte-here text (n.next + 1) h, s, two) in
        record {
          most = r.most;
          none = λ z. absurd (omega arith);
          some = λ z. record {
            long = v;
            written = rw ((r.some z).written, e) (simp append_assoc);
            within = omega arith;
            further = omega (arith, r.further (omega arith));
          };
        }
