-- What the numbers of modes, levels and classes stand for in C.
-- Assumes nothing.
use Rattle.std.specs.Prelude.{ℕ, cond, List, [], eqb, Option, Some, None}
use Rattle.number.specs.Questions.{OneText}
use Rattle.number.specs.declared.Written.{Written}
use Rattle.rules.specs.declared.Kind.{Kind}
use Rattle.rules.specs.declared.Kind.TheVariants.{Sn as sn, Standard as standard}
use Rattle.rules.specs.declared.RunDensity.{RunDensity}
use Rattle.rules.specs.declared.RunDensity.TheVariants.{Run32, Run24, Run20, Run16, Break}
use Rattle.rules.specs.declared.BreakdownMode.TheVariants as Mode
use Rattle.rules.specs.declared.StreamBreakdownLevel.TheVariants as Level
use Rattle.chart_texts.specs.Promises.{Breakdown}

-- the class with the paper's number; a number that stands for none is no stream class
abbrev pub class_at : ℕ → RunDensity
class_at n = cond (eqb n 1) Run16 (cond (eqb n 2) Run20 (cond (eqb n 3) Run24 (cond (eqb n 4) Run32 Break)))

-- the kind of text that a number stands for, if any
-- modes: 0 detailed, 1 partial, 2 simplified
abbrev pub mode_kind : ℕ → Option Kind
mode_kind n =
    cond (eqb n 0) (Some (sn Mode.Detailed))
    (cond (eqb n 1) (Some (sn Mode.Partial))
    (cond (eqb n 2) (Some (sn Mode.Simplified))
    None))

-- levels, as label numbers them
abbrev pub level_kind : ℕ → Option Kind
level_kind n =
    cond (eqb n 1) (Some (standard Level.Detailed))
    (cond (eqb n 2) (Some (standard Level.Partial))
    (cond (eqb n 3) (Some (standard Level.Simple))
    (cond (eqb n 4) (Some (standard Level.Total))
    None)))

-- the text of the kind that is meant; where none is, the refusal 100, and nothing is written
abbrev pub OneKind : Option Kind → List ℕ → List ℕ → List ℕ → Written → Type 0
OneKind (Some k) m old new r = Breakdown k m old new r
OneKind None m old new r = OneText 100 [] old new r
