-- What the pass measures before it writes: places for tokens, and the bytes of its six texts. Nothing here speaks of code.
-- Assumes nothing.
use Rattle.std.proofs.Common.{ℕ, ◌+◌, ◌*◌, ◌≤◌, ◌<◌, min, ◌≡◌, refl, ap, ◌∙◌, Bool, true, false, ◌&&◌, leb, List, length, arith, length-append}
use Rattle.std.specs.List.{sum}
use borrow.Author.Tests.{le-leb, lt-leb, leb-true}
use Rattle.number.proofs.Split.{split}
use Rattle.rules.specs.Chart.{classes, active_part, runs, tokens}
use Rattle.rules.specs.Texts.{text, pass_kinds, end_to_end}
use Rattle.rules.specs.declared.Kind.{Kind}
use Rattle.rules.specs.declared.Kind.TheVariants.{Sn as sn, Standard as standard}
use Rattle.rules.specs.declared.BreakdownMode.TheVariants as Mode
use Rattle.rules.specs.declared.StreamBreakdownLevel.TheVariants as Level
use Rattle.rules.proofs.Bound.{text-most}
use Rattle.breakdown.specs.Forms.{form_of, is_total, text_of}
use Rattle.breakdown.specs.Lengths.{DueOf}
use Rattle.breakdown.specs.declared.length.Due.{Due}
use Rattle.breakdown.proofs.Modes.{part-tokens, form-text}
use Rattle.stream_outputs.specs.Pass.{no_by_places}

-- in a slice of 17 bytes a measure and 33 the texts of any chart have room
pub roomy : (m : List ℕ) → length (end_to_end pass_kinds m) ≤ 17 * length m + 33
roomy m =
    simp length-append
    (omega (
      arith,
      text-most m (sn Mode.Detailed),
      text-most m (sn Mode.Partial),
      text-most m (sn Mode.Simplified),
      text-most m (standard Level.Detailed),
      text-most m (standard Level.Partial),
      text-most m (standard Level.Simple),
    ))

module _ (m part : List ℕ) (e : part ≡ active_part m) {r : Due} (d : DueOf (runs (classes part)) r) where
  read : runs (classes part) ≡ tokens (classes m)
  read = rw e (part-tokens m)

  pub due-tokens : r.tokens ≡ length (tokens (classes m))
  due-tokens = d.number ∙ ap length read

  is-text : (k : Kind) → is_total k ≡ false → length (text_of (form_of k) (runs (classes part))) ≡ length (text k m)
  is-text k h = ap length (form-text (runs (classes part)) m read k h)

  pub due-bytes : sum r.lengths ≡ length (end_to_end pass_kinds m)
  due-bytes =
      rw (
        d.bytes,
        is-text (sn Mode.Detailed) refl,
        is-text (sn Mode.Partial) refl,
        is-text (sn Mode.Simplified) refl,
        is-text (standard Level.Detailed) refl,
        is-text (standard Level.Partial) refl,
        is-text (standard Level.Simple) refl,
      )
      (simp length-append (omega arith))

-- ---- the first no, by the places of the lent slices

and-false : (a : Bool) → a && false ≡ false
and-false true = refl
and-false false = refl

module _ (m : List ℕ) (c n room : ℕ) (few : length m ≤ 1048576) where
  abbrev due : ℕ
  due = length (tokens (classes m))

  abbrev bytes : ℕ
  bytes = length (end_to_end pass_kinds m)

  pub no-2 : min c n < due → 2 ≡ no_by_places m c n room
  no-2 h =
      split (leb due c)
      (λ y. let z : n < due = omega (arith, leb-true due c y) in rw (le-leb (length m) 1048576 few, lt-leb due n z, and-false))
      (λ x. rw (le-leb (length m) 1048576 few, x))

  pub no-4 : due ≤ min c n → room < bytes → 4 ≡ no_by_places m c n room
  no-4 h l = rw (le-leb (length m) 1048576 few, le-leb due c (omega arith), le-leb due n (omega arith), lt-leb bytes room l)

  pub no-0 : due ≤ min c n → bytes ≤ room → 0 ≡ no_by_places m c n room
  no-0 h l = rw (le-leb (length m) 1048576 few, le-leb due c (omega arith), le-leb due n (omega arith), le-leb bytes room l)
