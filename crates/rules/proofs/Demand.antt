-- Demand 3 on the level of the rules. Counts, tokens, segments, steps and texts are made of a chart's classes, so charts of the same classes share them.
-- Assumes nothing.
use Prim.Native.Nat.{ℕ}
use mathlib.Core.Path.{◌≡◌, refl, sym, ap, ◌∙◌}
use mathlib.Core.Logic.Iff
use mathlib.Core.List.{List, [], ◌∷◌}
use lib.ListN.{length, get_or, length-map, get_or-map}
use lib.Seq.{ext_get_or}
use Rattle.rules.specs.Chart.{class_of, classes}
use Rattle.rules.specs.Reduced.{Kind, standard, reduced}
use Rattle.rules.specs.Texts.{text, render, end_to_end, lengths_of}
use Rattle.rules.specs.Demand.{SameClasses, ExactlyWhen}
use Rattle.rules.specs.declared.StreamBreakdownLevel.TheVariants as Level
use Rattle.rules.proofs.Exact.{exactly-when}
use Rattle.rules.proofs.Places.{detailed-tells}

pub same-classes : (a b : List ℕ) → SameClasses a b → classes a ≡ classes b
unfolding class_of
same-classes a b h =
    ext_get_or 0 (classes a) (classes b) (length-map a class_of ∙ h.long ∙ sym (length-map b class_of))
    (λ i k. in_map a i ∙ h.each i (rw length-map at k) ∙ sym (in_map b i))
  where
    in_map : (l : List ℕ) (i : ℕ) → get_or (classes l) i 0 ≡ class_of (get_or l i 0)
    in_map l i = get_or-map class_of l i 0

pub same_length : (a b : List ℕ) → classes a ≡ classes b → length a ≡ length b
same_length a b e = sym (length-map a class_of) ∙ ap length e ∙ length-map b class_of

pub same_text : (k : Kind) (a b : List ℕ) → classes a ≡ classes b → text k a ≡ text k b
unfolding text
same_text k a b e = ap (λ (cs : List ℕ). render k (reduced k cs)) e

pub same-texts : (ks : List Kind) (a b : List ℕ) → classes a ≡ classes b → end_to_end ks a ≡ end_to_end ks b
same-texts [] a b e = refl
same-texts (k ∷ ks) a b e = rw (same_text k a b e, same-texts ks a b e)

pub same-lengths : (ks : List Kind) (a b : List ℕ) → classes a ≡ classes b → lengths_of ks a ≡ lengths_of ks b
same-lengths [] a b e = refl
same-lengths (k ∷ ks) a b e = rw (same_text k a b e, same-lengths ks a b e)

pub exactly : (a b : List ℕ) → ExactlyWhen a b
exactly a b =
    record {
      texts = λ k. exactly-when k a b;
      detailed = Iff.trans (exactly-when (standard Level.Detailed) a b) (detailed-tells (classes a) (classes b));
    }
