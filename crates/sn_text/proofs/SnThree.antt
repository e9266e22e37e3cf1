-- SN texts in one walk: one turn of a text, the turns one after the other, and the run that is left.
-- Assumes nothing.
use Prim.Native.Nat.{ℕ, zero, suc, ◌+◌, ◌*◌, ◌≤◌}
use mathlib.Core.Path.{◌≡◌, refl, sym, ap, ◌∙◌}
use mathlib.Core.Bool.{Bool, true, false, ◌&&◌, and-eq-true_iff}
use mathlib.Core.Logic.{◌≢◌}
use mathlib.Core.List.{List, [], ◌∷◌, ◌++◌, append_assoc, append-nil}
use native.Mathlib.Omega.{arith}
use lib.Dec.{ltb, leb}
use lib.ListN.{length, drop, length-append}
use borrow.Author.Tests.{ltb-true}
use Rattle.number.proofs.Split.{split}
use Rattle.rules.specs.Chart.{Token, token}
use Rattle.rules.specs.Reduced.{run, drop_ones}
use Rattle.rules.specs.Texts.{word}
use Rattle.rules.specs.Slices.{paired, total}
use Rattle.rules.proofs.Steps.{drop-run, short-long}
use Rattle.rules.proofs.Cost.{total-append}
use Rattle.number.specs.Grown.{Grown}
use Rattle.text_buffer.specs.Runs.{run_token, run_text}
use Rattle.text_buffer.specs.declared.run.Run.{Run}
use Rattle.text_buffer.proofs.Bytes.{measures-short, measured-run, sign-one}
use Rattle.number.proofs.Grown.{grown, grown-none}
use Rattle.sn_text.specs.Sn.{break_item, break_tokens, shown}
use Rattle.sn_text.specs.SnParts.{sn_of, ended, long_break, join_class, RunAt}
use Rattle.sn_text.specs.SnThree.{Turned, OpenedIn}
use Rattle.sn_text.specs.declared.three.Turn.{Turn}
use Rattle.sn_text.proofs.Groups.{break-tokens}
use Rattle.sn_text.proofs.SnParts.{joins-over, run-item, joined-text, apart-text, near-shown, else-shown}
use Rattle.sn_text.proofs.SnParts.{Opened, opened-low, opened-whole, on-text}

-- ---- how many bytes a run and a break take, with numbers of the domain

break-most : (k g : ℕ) → g ≤ 1048576 → length (ended k (token 0 g false ∷ [])) ≤ 11
break-most zero g h = simp length-append (omega (arith, measures-short g h))
break-most (suc k) g h = simp length-append (omega (arith, sign-one 32 g))

long-most : (k g : ℕ) → g ≤ 1048576 → length (ended k (long_break k g)) ≤ 11 * length (break_tokens g)
long-most k g h =
    split (ltb 1 g && ltb k g)
    (λ e. let l = ltb-true 1 g ((and-eq-true_iff _ _).0 e).0 in rw (e, break-tokens g (omega (arith, l))) (break-most k g h))
    (λ e. rw e (omega arith))

module _ (k c : ℕ) (r : c ≢ 0) (g : ℕ) where
  shown-most : (n : ℕ) (s : Bool) → n ≤ 1048576 → g ≤ 1048576 → length (ended k (token c n s ∷ long_break k g)) ≤ 11 * (length (break_tokens g) + 1)
  shown-most n s h l =
      rw (run-item (break_item k) c n s r)
      (omega (
        arith,
        length-append (word (run c n s) ++ (32 ∷ [])) (ended k (long_break k g)),
        length-append (word (run c n s)) (32 ∷ []),
        measured-run c n s h,
        long-most k g l,
      ))

  group-most : (n : ℕ) (s : Bool) → n + g ≤ 1048576 → length (ended k (shown k (token c n s ∷ break_tokens g))) ≤ 11 * (length (break_tokens g) + 1)
  group-most n s h =
      split (ltb 1 g && leb g k)
      (λ e. rw (near-shown k c n s g r e) (shown-most (n + g) true h (omega arith)))
      (λ e. rw (else-shown k c n s g r e) (shown-most n s (omega arith) (omega arith)))

-- ---- with the limit 0 nothing joins, and a break is a token like others

pub none-joins : (c g : ℕ) {d : ℕ} → d ≢ 0 → d ≢ join_class 0 c g
none-joins c g r e = let near = joins-over 0 c g r e in omega (arith, near.0, near.1)

pub behind-text : (c n : ℕ) (s : Bool) (g : ℕ) → c ≢ 0 → 1 ≤ g
    → (word (run c n s) ++ (32 ∷ [])) ++ ended 0 (drop_ones (token 0 g false ∷ [])) ≡ ended 0 (shown 0 (token c n s ∷ break_tokens g))
behind-text c n s g r h =
    rw (break-tokens g h, short-long 0 (token 0 g false) h, drop-run (token c n s) (token 0 g false ∷ []) r, run-item (break_item 0) c n s r)

-- ---- a turn

module _ (k : ℕ) (last : Run) (g : ℕ) (next : Run) (rl : last.class ≢ 0) (rn : next.class ≢ 0) {old : List ℕ} {at : ℕ} where
  pub turned_apart : next.class ≢ join_class k last.class g → {new : List ℕ} {r : ℕ}
      → Grown old new at (ended k (shown k (run_token last ∷ break_tokens g))) r
      → Turned k (run_token last) g (run_token next) old at new (record { run = next; place = r })
  turned_apart d h =
      record {
        done = ended k (shown k (run_token last ∷ break_tokens g));
        text = λ more. apart-text k (run_token last) rl (run_token next) more g rn d;
        grown = h;
        same = refl;
        small = omega arith;
        short = λ m. omega (arith, h.next, group-most k last.class rl g last.length last.starred m);
      }

  pub turned-joins : next.class ≡ join_class k last.class g
      → Turned k (run_token last) g (run_token next) old at old (record
      { run = record { class = last.class; length = last.length + (g + next.length); starred = true }; place = at })
  turned-joins e =
      record {
        done = [];
        text = λ more. joined-text k (run_token last) rl (run_token next) more g rn e;
        grown = grown-none;
        same = sym (joins-over k last.class g rn e).2;
        small = omega arith;
        short = λ m. omega arith;
      }

-- ---- the turns one after the other

total-break : (g : ℕ) → total (break_tokens g) ≡ g
total-break zero = refl
total-break (suc g) = omega arith

-- the text of a first run t and of the tokens before place i stands in the buffer, but for the run that is open: at most 11 bytes a token;
-- that run and the tokens from place i on have no more measures than a chart of the domain
pub record Walking (k : ℕ) (t : Token) (cs ns old new : List ℕ) (r : Turn) (i : ℕ) : Type 0 where
  pub done : List ℕ
  pub opened : Opened k t cs ns done (run_token r.run) i
  pub grown : Grown old new 0 done r.place
  pub short : r.place ≤ 11 * i
  pub few : r.run.length + total (drop i (paired cs ns)) ≤ 1048576

module _ {k : ℕ} {t : Token} {cs ns old buf : List ℕ} {r : Turn} {i : ℕ} (w : Walking k t cs ns old buf r i) where
  pub walking-low : r.run.class ≤ 4
  walking-low = opened-low w.opened

  pub walking-ends : length cs ≤ i → 11 * length cs + 52 ≤ length old → OpenedIn k t cs ns old buf r
  walking-ends h l =
      record {
        done = w.done;
        text = rw append-nil at (opened-whole w.opened h []);
        grown = w.grown;
        run = w.opened.run;
        low = walking-low;
        room = omega (arith, w.grown.long, w.short, w.opened.within);
      }

  module _ {g d n next : ℕ} (a : RunAt cs ns i g d n next) where
    -- so have the open run, the break, the next run and the tokens behind it
    pub walking-few : r.run.length + (g + n) + total (drop next (paired cs ns)) ≤ 1048576
    walking-few =
        omega (arith, w.few, ap total a.rest, total-append (break_tokens g) (token d n false ∷ drop next (paired cs ns)), total-break g)

    module _ {new : List ℕ} {q : Turn} (h : Turned k (run_token r.run) g (token d n false) buf r.place new q) where
      turned-opened : Opened k t cs ns (w.done ++ h.done) (run_token q.run) next
      turned-opened =
          record {
            whole = λ more.
                on-text w.opened a more
                ∙ ap (λ (l : List ℕ). w.done ++ l) (h.text (drop next (paired cs ns) ++ more))
                ∙ sym (append_assoc w.done h.done _);
            run = rw h.same a.run;
            behind = rw h.same a.behind;
            small = omega (arith, h.small, walking-few, a.on);
            within = a.within;
          }

      pub walking-next : Walking k t cs ns old new q next
      walking-next =
          record {
            done = w.done ++ h.done;
            opened = turned-opened;
            grown = grown w.done h.done w.grown h.grown;
            short = omega (arith, w.short, h.short (omega (arith, walking-few)), a.on);
            few = omega (arith, h.small, walking-few);
          }

-- ---- the run that is left

pub last-shown : (k : ℕ) (r : Run) → r.class ≢ 0 → sn_of k (run_token r ∷ []) ≡ run_text r
last-shown k r h = rw (drop-run (run_token r) [] h, run-item (break_item k) r.class r.length r.starred h) (append-nil _)

-- it is written too
pub opened-written : {k : ℕ} {t : Token} {cs ns old mid : List ℕ} {r : Turn} → OpenedIn k t cs ns old mid r → {new : List ℕ} {q : ℕ}
    → Grown mid new r.place (run_text r.run) q → Grown old new 0 (sn_of k (t ∷ paired cs ns)) q
opened-written {k} {r = r} o g = rw (o.text, last-shown k r.run o.run) (grown o.done (run_text r.run) o.grown g)
