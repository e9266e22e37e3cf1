-- The pass: its six texts end to end, written one by one, and what meets its promise. Nothing here speaks of code.
-- Assumes nothing.
use Rattle.std.proofs.Common.{ℕ, suc, ◌+◌, ◌≤◌, ◌<◌, ◌≡◌, refl, sym, ap, ◌∙◌, Bool, true, false, ◌&&◌, leb, List, [], ◌∷◌, ◌++◌, map, length, take, drop, get_or, arith, append_assoc, append-nil, length-append, add-one}
use Rattle.std.proofs.Math.Nat.{zero-add}
use Rattle.std.proofs.Math.ListN.{set, replicate, length-set, length-map}
use Rattle.std.proofs.Math.Seq.{length-take-le, take-suc-set, take_all, drop-cons}
use borrow.Author.Tests.{leb-true}
use Rattle.number.specs.Place.{Room, Wrote}
use Rattle.number.specs.Questions.{question, first_no}
use Rattle.number.proofs.Place.{room-first, at-start}
use Rattle.rules.specs.Chart.{class_of, classes, Token, active_part, tokens, counts}
use Rattle.rules.specs.Slices.{paired, total}
use Rattle.rules.specs.Texts.{pass_kinds, end_to_end, lengths_of}
use Rattle.rules.specs.declared.Kind.{Kind}
use Rattle.rules.specs.declared.Kind.TheVariants.{Sn as sn, Standard as standard}
use Rattle.rules.specs.declared.BreakdownMode.TheVariants as Mode
use Rattle.rules.specs.declared.StreamBreakdownLevel.TheVariants as Level
use Rattle.rules.specs.declared.StreamCounts.{StreamCounts}
use Rattle.rules.proofs.Cost.{total_runs, active-short}
use Rattle.scan.specs.Scan.{InSlices}
use Rattle.scan.proofs.Written.{within_c, within_n, back}
use Rattle.measures.proofs.Part.{part-runs}
use Rattle.counts.proofs.TokenSums.{tokens-few}
use Rattle.text_buffer.specs.Buffer.{Added, Ready, goes_on}
use Rattle.text_buffer.specs.declared.buffer.Left.{Left}
use Rattle.text_buffer.proofs.Added.{added_none, added-room, added, added-ready, added_next, added-ends}
use Rattle.breakdown.specs.Forms.{form_of, text_of}
use Rattle.breakdown.specs.declared.form.Form.{Form}
use Rattle.breakdown.proofs.Measures.{paired-length}
use Rattle.breakdown.proofs.Modes.{tokens-of, form-text}
use Rattle.stream_outputs.specs.Promises.{pass_no, Outputs}
use Rattle.stream_outputs.specs.Pass.{texts_of, Tokened, SixTexts}

-- how long each of some texts is
abbrev longs_of : List Kind → List Token → List ℕ
longs_of ks ts = map (λ k. length (text_of (form_of k) ts)) ks

abbrev pub kind_at : ℕ → Kind
kind_at i = get_or pass_kinds i (sn Mode.Detailed)

next-kind : (i : ℕ) → i < 6 → drop i pass_kinds ≡ kind_at i ∷ drop (suc i) pass_kinds
next-kind i h = drop-cons pass_kinds i (sn Mode.Detailed) h

-- the first i texts are added, and their lengths stand in a list of six
pub record Going (ts : List Token) (first old : List ℕ) (i : ℕ) (buf out lengths : List ℕ) (to : Left) : Type 0 where
  pub done : List ℕ
  pub whole : done ++ texts_of (drop i pass_kinds) ts ≡ texts_of pass_kinds ts
  pub wrote : Added first old (goes_on 0 0) done buf out to
  pub ready : Ready buf to.left
  pub each : take i lengths ++ longs_of (drop i pass_kinds) ts ≡ longs_of pass_kinds ts
  pub six : length lengths ≡ 6

module _ {ts : List Token} {first old : List ℕ} {i : ℕ} {buf out lengths : List ℕ} {to : Left} (g : Going ts first old i buf out lengths to) where
  so-far : to.place + to.left ≡ length g.done
  so-far = rw (zero-add (length g.done)) at (added_next g.done g.wrote (omega arith) (omega (arith, g.ready.long, g.ready.few)))

  -- room for the others after what stands in the buffer
  module _ (room : length (texts_of pass_kinds ts) ≤ length old) where
    others-room : Room out to.place (take to.left buf ++ texts_of (drop i pass_kinds) ts)
    others-room = added-room g.done g.wrote (texts_of (drop i pass_kinds) ts) (rw g.whole (record { fits = omega (arith, room) }))

    module _ (h : i < 6) {f : Form} (e : f ≡ form_of (kind_at i)) where
      next-text : texts_of (drop i pass_kinds) ts ≡ text_of f ts ++ texts_of (drop (suc i) pass_kinds) ts
      next-text = rw (next-kind i h, e)

      pub next-room : Room out to.place (take to.left buf ++ text_of f ts)
      next-room = room-first (take to.left buf ++ text_of f ts) (texts_of (drop (suc i) pass_kinds) ts) (rw append_assoc (rw next-text at others-room))

      module _ {last new : List ℕ} {next : Left} (a : Added buf out to (text_of f ts) last new next) where
        on-by : next.place + next.left ≡ to.place + to.left + length (text_of f ts)
        on-by = added_next (text_of f ts) a (omega (arith, g.ready.long, g.ready.few)) (omega (arith, (added-ready (text_of f ts) a g.ready).long, a.few))

        pub next-between : length old < 18446744073709551616 → (to.place + to.left ≤ next.place + next.left) × (next.place + next.left < 18446744073709551616)
        next-between l =
            let w = ap {B = ℕ} length g.whole in
            let n = ap {B = ℕ} length next-text in
            let d = length-append g.done (texts_of (drop i pass_kinds) ts) in
            let t = length-append (text_of f ts) (texts_of (drop (suc i) pass_kinds) ts) in
            (omega (arith, on-by), omega (arith, on-by, so-far, w, n, d, t, room))

        pub going-on : (r : ℕ) → r + (to.place + to.left) ≡ next.place + next.left → Going ts first old (i + 1) last new (set lengths i r) next
        going-on r l =
            let b : r ≡ length (text_of f ts) = omega (arith, l, on-by) in
            rw add-one
            (record {
              done = g.done ++ text_of f ts;
              whole = rw append_assoc (rw next-text at g.whole);
              wrote = added g.done g.wrote (text_of f ts) a;
              ready = added-ready (text_of f ts) a g.ready;
              each = rw (take-suc-set lengths i r (omega (arith, g.six)), append_assoc, b, e) (rw (next-kind i h) at g.each);
              six = length-set lengths i r ∙ g.six;
            })

    -- all six
    module _ (h : 6 ≤ i) (l : i ≤ 6) where
      all-done : i ≡ 6
      all-done = omega arith

      pub going-ends : {new : List ℕ} {r : ℕ} → Wrote out new to.place (take to.left buf) r → SixTexts ts old new lengths
      going-ends {new} {r} w =
          let d : g.done ≡ texts_of pass_kinds ts = sym (append-nil g.done) ∙ (rw all-done at g.whole) in
          let e : take 6 lengths ++ [] ≡ longs_of pass_kinds ts = rw all-done at g.each in
          record {
            each = sym (take_all 6 lengths (omega (arith, g.six))) ∙ sym (append-nil (take 6 lengths)) ∙ e;
            bytes = (at-start (texts_of pass_kinds ts) old new r room (added-ends (texts_of pass_kinds ts) (rw d at g.wrote) w)).1;
          }

-- ---- the tokens of a chart

module _ (m : List ℕ) {ts : List Token} (e : ts ≡ tokens (classes m)) where
  texts-are : texts_of pass_kinds ts ≡ end_to_end pass_kinds m
  texts-are =
      rw (
        form-text ts m e (sn Mode.Detailed) refl,
        form-text ts m e (sn Mode.Partial) refl,
        form-text ts m e (sn Mode.Simplified) refl,
        form-text ts m e (standard Level.Detailed) refl,
        form-text ts m e (standard Level.Partial) refl,
        form-text ts m e (standard Level.Simple) refl,
      )

  longs-are : longs_of pass_kinds ts ≡ lengths_of pass_kinds m
  longs-are =
      rw (
        form-text ts m e (sn Mode.Detailed) refl,
        form-text ts m e (sn Mode.Partial) refl,
        form-text ts m e (sn Mode.Simplified) refl,
        form-text ts m e (standard Level.Detailed) refl,
        form-text ts m e (standard Level.Partial) refl,
        form-text ts m e (standard Level.Simple) refl,
      )

tokens-total : (m : List ℕ) → total (tokens (classes m)) ≤ length m
unfolding tokens
tokens-total m = rw total_runs (omega (arith, active-short (classes m), length-map m class_of))

-- those that the scan wrote
module _ (m : List ℕ) {cs cs' ns ns' : List ℕ} {k : ℕ} (w : InSlices (tokens (classes m)) k cs cs' ns ns') where
  written : paired (take k cs') (take k ns') ≡ tokens (classes m)
  written = back w (active_part m) (sym (part-runs m (active_part m) refl))

  pub equally-long : length (take k cs') ≡ length (take k ns')
  equally-long = length-take-le k cs' (within_c w) ∙ sym (length-take-le k ns' (within_n w))

  pub tokened : {old : List ℕ} → length m ≤ 1048576 → length (end_to_end pass_kinds m) ≤ length old → Tokened (take k cs') (take k ns') old
  tokened h room =
      let n = paired-length (take k cs') (take k ns') equally-long in
      record {
        tokens = tokens-of (take k cs') (take k ns') m written (omega (arith, n, ap {B = ℕ} length written, tokens-few m, h));
        few = rw written (omega (arith, tokens-total m, h));
        room = rw (texts-are m written) room;
      }

-- ---- the pass

-- all four are answered with yes
pub record Fitting (m cs ns old : List ℕ) : Type 0 where
  pub few : length m ≤ 1048576
  pub room_c : length (tokens (classes m)) ≤ length cs
  pub room_n : length (tokens (classes m)) ≤ length ns
  pub fits : length (end_to_end pass_kinds m) ≤ length old

module _ (m cs ns old : List ℕ) (z : 0 ≡ pass_no m cs ns old) where
  all : (leb (length m) 1048576 ≡ true)
      × (leb (length (tokens (classes m))) (length cs) ≡ true)
      × (leb (length (tokens (classes m))) (length ns) ≡ true)
      × (leb (length (end_to_end pass_kinds m)) (length old) ≡ true)
  all = go _ _ _ _ (sym z)
    where
      go : (a b c d : Bool) → first_no (question 1 a ∷ question 2 (b && c) ∷ question 4 d ∷ []) ≡ 0 → (a ≡ true) × (b ≡ true) × (c ≡ true) × (d ≡ true)
      go true true true true h = (refl, refl, refl, refl)
      go true true true false h = absurd (omega arith)
      go true true false d h = absurd (omega arith)
      go true false c d h = absurd (omega arith)
      go false b c d h = absurd (omega arith)

  pub fitting : Fitting m cs ns old
  fitting = record { few = leb-true _ _ all.0; room_c = leb-true _ _ all.1; room_n = leb-true _ _ all.2; fits = leb-true _ _ all.3 }

  -- accepted: the scan's tokens and counts, and the texts
  pub passed : {k : ℕ} {cs' ns' new ls : List ℕ} {n : StreamCounts} → n ≡ counts (classes m) → (w : InSlices (tokens (classes m)) k cs cs' ns ns')
      → SixTexts (paired (take k cs') (take k ns')) old new ls
      → Outputs m cs cs' ns ns' old new (record { refused = 0; counts = n; tokens = k; lengths = ls })
  passed h w s =
      let y : pass_no m cs ns old ≡ 0 = sym z in
      record {
        answer = rw (y, h, w.number, s.each, longs-are m (written m w));
        in_classes = rw y w.in_classes;
        in_lengths = rw y w.in_lengths;
        bytes = rw (y, ← (texts-are m (written m w))) s.bytes;
      }
