-- A text part by part: the open run or piece at its start, between two parts and at its end.
-- Assumes nothing.
use Prim.Native.Nat.{ℕ, zero, suc, ◌+◌, ◌-◌, ◌*◌, ◌≤◌, ◌<◌}
use mathlib.Core.Path.{◌≡◌, refl, sym, ap, ◌∙◌}
use mathlib.Core.Bool.{Bool, false}
use mathlib.Core.Logic.{◌≢◌}
use mathlib.Core.List.{List, [], ◌∷◌, ◌++◌, append-nil}
use native.Mathlib.Nat.{suc-ne-zero}
use native.Mathlib.Omega.{arith}
use lib.Dec.{eqb}
use lib.ListN.{length, drop, get_or, length-append, length-drop}
use borrow.Author.Tests.{eqb-true}
use Rattle.number.proofs.Split.{split}
use Rattle.rules.specs.Chart.{class_of, classes, Token, token, runs_from, runs}
use Rattle.rules.specs.Calls.{step_at, admitted}
use Rattle.rules.specs.declared.ViewToken.{ViewToken}
use Rattle.rules.specs.Slices.{paired}
use Rattle.rules.proofs.Domain.{all-admitted}
use Rattle.text_buffer.specs.MayFollow.{MayFollow, Alternates}
use Rattle.standard_text.specs.Standard.{glue}
use Rattle.text_buffer.specs.Parts.{Tokens, TokensBehind}
use Rattle.sn_text.proofs.SnThree.{last-shown}
use Rattle.text_buffer.specs.Runs.{run_text}
use Rattle.breakdown.specs.Forms.{text_of, open_text, part_text, Open, OpenNext, FirstRun}
use Rattle.breakdown.specs.Parts.{ActiveMeasures, FirstToken, Unread, PartRead}
use Rattle.breakdown.specs.declared.form.Form.{Form}
use Rattle.breakdown.specs.declared.form.Form.TheVariants.{Sn, Standard}
use Rattle.text_buffer.specs.declared.run.Run.{Run}
use Rattle.breakdown.proofs.Measures.{last_class, behind-front, behind-back, behind-any, last-paired, paired-length}
use Rattle.text_buffer.proofs.Reading.{behind-low, Stepped, stepped}

-- ---- the first token

-- a piece is of no class
any-class : (c n : ℕ) (s : Bool) (ps : List Token) → c ≢ 0 → glue (token c n s) ps ≡ glue (token 1 n s) ps
any-class zero n s ps h = absurd (h refl)
any-class (suc c) n s [] h = refl
any-class (suc c) n s (token zero m t ∷ ps) h = refl
any-class (suc c) n s (token (suc d) m t ∷ ps) h = refl

module _ (k c n : ℕ) (h : (c ≢ 0) × (c ≤ 4)) (l : n < 4294967296) where
  pub first-sn : FirstRun (Sn k) c n (record { class = c; length = n; starred = false })
  first-sn = record { run = record { run = h.0; low = h.1; piece = tt }; text = λ ts. refl; long = refl; small = l }

  pub first-standard : (b : Bool) → FirstRun (Standard k b) c n (record { class = 1; length = n; starred = false })
  first-standard b =
      record {
        run = record { run = suc-ne-zero 0; low = omega arith; piece = refl };
        text = λ ts. rw (any-class c n false _ h.0) refl;
        long = refl;
        small = l;
      }

-- ---- the last run or piece

pub last-text : (f : Form) (r : Run) → Open f r → open_text f r [] ≡ run_text r
last-text (Sn k) r o = last-shown k r o.run
last-text (Standard k b) r o = rw o.piece (simp append-nil)

-- ---- no tokens

pub none-short : (f : Form) → length (text_of f []) ≤ 11
none-short (Sn k) = omega arith
none-short (Standard k b) = omega arith

-- ---- the last measure is a stream measure

abbrev last_of : ℕ → List ℕ → ℕ
last_of c [] = c
last_of c (d ∷ cs) = last_of d cs

ends : (b c n : ℕ) (cs : List ℕ) → MayFollow b (runs_from c n cs) → last_of c cs ≢ 0
ends b c n [] h = h.1.0
ends b c n (d ∷ cs) h =
    split (eqb c d)
    (λ e. rw (← (eqb-true c d e)) (ends b c (suc n) cs (rw e at h)))
    (λ e. ends c d 1 cs (rw e at h).1)

ends-stream : (b : ℕ) (m : List ℕ) → 0 < length m → MayFollow b (runs (classes m)) → class_of (get_or m (length m - 1) 0) ≢ 0
ends-stream b [] h g = absurd (omega arith)
ends-stream b (d ∷ m) h g =
    let e : suc (length m) - 1 ≡ length m = omega arith in
    rw (e, ← (last d m)) (ends b (class_of d) 1 (classes m) g)
  where
    last : (d : ℕ) (m : List ℕ) → last_of (class_of d) (classes m) ≡ class_of (get_or (d ∷ m) (length m) 0)
    last d [] = refl
    last d (x ∷ m) = last x m

-- ---- between two parts of the measures m, `rest` are to come

pub record Along (m : List ℕ) (f : Form) (r : Run) (rest : List ℕ) : Type 0 where
  pub run : Open f r
  pub behind : MayFollow r.class (runs (classes rest))
  pub small : r.length + 1099511627776 * length rest ≤ 1099511627776 * length m

-- the first token
pub first-found : {m : List ℕ} → ActiveMeasures m → 0 < length m → (t : ViewToken) → t ≡ step_at 0 (admitted m) → FirstToken m t
first-found {m} a h t e =
    let step : Stepped m t = rw (e, all-admitted m a.few) (stepped m h) in
    let behind = rw step.rest at a.alternates in
    record {
      tokens = step.rest;
      run = λ z. (behind.0 z).0 refl;
      low = behind-low t.class (runs (classes (drop t.length m))) behind.1;
      some = step.some;
      within = step.fits;
    }

module _ {m : List ℕ} {t : ViewToken} (s : FirstToken m t) where
  first-behind : Alternates (runs (classes m)) → MayFollow t.class (runs (classes (drop t.length m)))
  first-behind a = (rw s.tokens at a).1

  pub first-unread : ActiveMeasures m → Unread (drop t.length m)
  first-unread a =
      record {
        few = omega (arith, a.few, length-drop t.length m);
        last = λ l. ends-stream t.class (drop t.length m) l (first-behind a.alternates);
      }

  pub first_count : 1 + length (runs (classes (drop t.length m))) ≡ length (runs (classes m))
  first_count = omega (arith, ap {B = ℕ} length s.tokens)

  -- one token of at least one measure
  pub first-few : 1 + 256 * length (drop t.length m) ≤ 256 * length m
  first-few = omega (arith, s.some, s.within, length-drop t.length m)

  module _ (f : Form) {r : Run} (g : FirstRun f t.class t.length r) where
    pub first-along : Alternates (runs (classes m)) → Along m f r (drop t.length m)
    first-along a =
        record {
          run = g.run;
          behind = behind-any t.class r.class (runs (classes (drop t.length m))) g.run.run g.run.low (first-behind a);
          small = omega (arith, g.long, s.some, s.within, length-drop t.length m);
        }

    pub first-text : text_of f (runs (classes m)) ≡ open_text f r (runs (classes (drop t.length m)))
    first-text = ap (text_of f) s.tokens ∙ g.text (runs (classes (drop t.length m)))

-- the next part
module _ {m : List ℕ} {f : Form} {r : Run} {old cs ns rest : List ℕ} (a : Along m f r old) (p : PartRead old cs ns rest) where
  behind : MayFollow r.class (paired cs ns ++ runs (classes rest))
  behind = rw p.tokens at a.behind

  last : last_class r.class (paired cs ns) ≢ 0
  last = rw (last-paired r.class cs ns (length cs - 1) p.long (omega (arith, p.some))) p.run

  pub part-tokens : TokensBehind r.class cs ns
  part-tokens = record { few = omega (arith, p.few); run = a.run.run; behind = behind-front r.class (paired cs ns) (runs (classes rest)) behind last }

  pub on : {u : Run} → OpenNext f r (length cs) u → Along m f u rest
  on {u} o =
      record {
        run = o.run;
        behind = behind-any _ u.class (runs (classes rest)) o.run.run o.run.low (behind-back r.class (paired cs ns) (runs (classes rest)) behind);
        small = omega (arith, o.small, a.small, p.few, p.on);
      }

  -- the text from here on is that of this part, and of what follows
  pub on-text : (ds : List ℕ) (u : Run) → ((us : List Token) → open_text f r (paired cs ns ++ us) ≡ ds ++ open_text f u us)
      → open_text f r (runs (classes old)) ≡ ds ++ open_text f u (runs (classes rest))
  on-text ds u w = ap (open_text f r) p.tokens ∙ w (runs (classes rest))

pub on-count : {old cs ns rest : List ℕ} (n all : ℕ) → PartRead old cs ns rest → n + length (runs (classes old)) ≡ all
    → n + length cs + length (runs (classes rest)) ≡ all
on-count {cs = cs} {ns} {rest} n all p h =
    omega (arith, h, ap {B = ℕ} length p.tokens, length-append (paired cs ns) (runs (classes rest)), paired-length cs ns p.long)

-- after the last part
pub no-measures : (m : List ℕ) → length m ≡ 0 → runs (classes m) ≡ []
no-measures [] h = refl
no-measures (d ∷ m) h = absurd (omega arith)

pub at-end : {m : List ℕ} {f : Form} {r : Run} {rest : List ℕ} → Along m f r rest → length rest ≡ 0 → open_text f r (runs (classes rest)) ≡ run_text r
at-end {f = f} {r} {rest} a h = rw (no-measures rest h) (last-text f r a.run)

-- ---- tokens in two slices: the first, and one part with all others

module _ {cs ns : List ℕ} (t : Tokens cs ns) (e : length cs ≡ length ns) (h : length cs ≢ 0) where
  pub first-here : paired cs ns ≡ token (get_or cs 0 0) (get_or ns 0 0) false ∷ paired (drop 1 cs) (drop 1 ns)
  first-here = go cs ns h e
    where
      go : (cs ns : List ℕ) → length cs ≢ 0 → length cs ≡ length ns
          → paired cs ns ≡ token (get_or cs 0 0) (get_or ns 0 0) false ∷ paired (drop 1 cs) (drop 1 ns)
      go [] ns h e = absurd (h refl)
      go (c ∷ cs) [] h e = absurd (omega arith)
      go (c ∷ cs) (n ∷ ns) h e = refl

  all-behind : MayFollow 0 (token (get_or cs 0 0) (get_or ns 0 0) false ∷ paired (drop 1 cs) (drop 1 ns))
  all-behind = rw first-here at t.alternates

  pub class-here : (get_or cs 0 0 ≢ 0) × (get_or cs 0 0 ≤ 4)
  class-here = (λ z. (all-behind.0 z).0 refl, behind-low (get_or cs 0 0) (paired (drop 1 cs) (drop 1 ns)) all-behind.1)

  module _ (f : Form) {r : Run} (g : FirstRun f (get_or cs 0 0) (get_or ns 0 0) r) where
    pub tokens-behind : TokensBehind r.class (drop 1 cs) (drop 1 ns)
    tokens-behind =
        record {
          few = omega (arith, length-drop 1 cs, t.few);
          run = g.run.run;
          behind = behind-any (get_or cs 0 0) r.class (paired (drop 1 cs) (drop 1 ns)) g.run.run g.run.low all-behind.1;
        }

    pub tokens-text : text_of f (paired cs ns) ≡ part_text f r (drop 1 cs) (drop 1 ns) []
    tokens-text =
        ap (text_of f) first-here ∙ g.text (paired (drop 1 cs) (drop 1 ns)) ∙ ap (open_text f r) (sym (append-nil (paired (drop 1 cs) (drop 1 ns))))

    -- all but the last run or piece, and then that
    pub tokens-all : {ds ms : List ℕ} → ds ≡ drop 1 cs → ms ≡ drop 1 ns → (done : List ℕ) {u : Run} → Open f u
        → ((us : List Token) → part_text f r ds ms us ≡ done ++ open_text f u us) → text_of f (paired cs ns) ≡ done ++ run_text u
    tokens-all x y done {u} o w = tokens-text ∙ (rw (x, y) at (w [])) ∙ ap (λ (l : List ℕ). done ++ l) (last-text f u o)
