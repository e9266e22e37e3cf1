-- The length of a text, part by part.
-- Assumes nothing.
use Prim.Native.Nat.{ℕ, ◌+◌, ◌*◌, ◌^◌, ◌≤◌, ◌<◌}
use mathlib.Core.Path.{◌≡◌, refl, sym, ap, ◌∙◌}
use mathlib.Core.List.{List, [], ◌∷◌}
use native.Mathlib.Nat.{zero-add}
use native.Mathlib.Omega.{arith}
use lib.ListN.{length, drop, get_or, length-drop}
use Rattle.rules.specs.Chart.{classes, Token, runs}
use Rattle.text_buffer.specs.MayFollow.{Alternates}
use Rattle.rules.specs.declared.ViewToken.{ViewToken}
use Rattle.breakdown.specs.Forms.{pass_form, text_of, open_text}
use Rattle.breakdown.specs.Parts.{FirstToken, PartRead}
use Rattle.breakdown.specs.Lengths.{FirstTally, TallyReady, TallyOn, ended_length, six_lengths}
use Rattle.breakdown.specs.declared.form.Form.{Form}
use Rattle.text_buffer.specs.declared.run.Tally.{Tally}
use Rattle.breakdown.proofs.PartByPart.{Along, first-along, first-text, part-tokens, on, at-end}

-- the tally t between two parts of the measures m, `rest` are to come; a part has at most 47 bytes for each of its 256 tokens
pub record Tallied (m rest : List ℕ) (f : Form) (t : Tally) : Type 0 where
  pub along : Along m f t.run rest
  pub sum : t.length + length (open_text f t.run (runs (classes rest))) ≡ length (text_of f (runs (classes m)))
  pub short : t.length + 12032 * length rest ≤ 12032 * length m

pub tally-starts : {m : List ℕ} {v : ViewToken} → Alternates (runs (classes m)) → FirstToken m v → (f : Form) {t : Tally} → FirstTally f v.class v.length t
    → Tallied m (drop v.length m) f t
tally-starts {m} {v} a s f {t} g =
    record {
      along = first-along s f g.first a;
      sum = rw (g.none, zero-add) (sym (ap length (first-text s f g.first)));
      short = omega (arith, g.none, length-drop v.length m);
    }

module _ {m old cs ns rest : List ℕ} (few : length m ≤ 1048576) (p : PartRead old cs ns rest) (f : Form) {t : Tally} (d : Tallied m old f t) where
  pub tally-ready : TallyReady f t cs ns
  tally-ready =
      record {
        behind = part-tokens d.along p;
        run = d.along.run;
        small = omega (arith, d.along.small);
        short = omega (arith, d.short);
      }

  pub tally-on : {u : Tally} → TallyOn f t cs ns u → Tallied m rest f u
  tally-on {u} o =
      record {
        along = on d.along p o.next;
        sum = sym (o.same (runs (classes rest))) ∙ rw (← p.tokens) d.sum;
        short = omega (arith, o.short, d.short, p.few, p.on);
      }

pub tally-short : {m rest : List ℕ} {f : Form} {t : Tally} → length m ≤ 1048576 → Tallied m rest f t → t.length ≤ 2 ^ 62
tally-short few d = omega (arith, d.short)

pub tally-ends : {m rest : List ℕ} {f : Form} {t : Tally} → Tallied m rest f t → length rest ≡ 0 → ended_length t ≡ length (text_of f (runs (classes m)))
tally-ends {t = t} d h = ap (λ (xs : List ℕ). t.length + length xs) (sym (at-end d.along h)) ∙ d.sum

-- six numbers, each the length of its text
pub six-given : (ts : List Token) (r : List ℕ) → length r ≡ 6 → ((i : ℕ) → i < 6 → get_or r i 0 ≡ length (text_of (pass_form i) ts)) → r ≡ six_lengths ts
six-given ts [] h p = absurd (omega arith)
six-given ts (u ∷ []) h p = absurd (omega arith)
six-given ts (u ∷ v ∷ []) h p = absurd (omega arith)
six-given ts (u ∷ v ∷ w ∷ []) h p = absurd (omega arith)
six-given ts (u ∷ v ∷ w ∷ x ∷ []) h p = absurd (omega arith)
six-given ts (u ∷ v ∷ w ∷ x ∷ y ∷ []) h p = absurd (omega arith)
six-given ts (u ∷ v ∷ w ∷ x ∷ y ∷ z ∷ []) h p =
    rw (p 0 (omega arith), p 1 (omega arith), p 2 (omega arith), p 3 (omega arith), p 4 (omega arith), p 5 (omega arith)) refl
six-given ts (u ∷ v ∷ w ∷ x ∷ y ∷ z ∷ a ∷ r) h p = absurd (omega arith)
