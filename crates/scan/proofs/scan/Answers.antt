-- `scan::scan` meets its contract.
-- Assumes nothing.
use mathlib.Core.Path.{refl, ap, ◌∙◌}
use mathlib.Core.Logic.{inl}
use native.Mathlib.Omega.{arith}
use Rattle.counts.specs.Sums.{sums_of}
use Rattle.measures.proofs.Part.{part-within, part-runs}
use Rattle.scan.proofs.Written.{back, pairs}
use Rattle.scan.proofs.scan.Goals as goal

pub runs_into-taken-requires : goal.runs_into-taken-requires
runs_into-taken-requires c =
    let ts = part-runs c.args.m.now _ c.active_behind-part.ensures in
    record {
      few = rw c.active_behind-part.ensures (omega (arith, part-within c.args.m.now, c.requires.few));
      room_c = inl (rw ts c.requires.room_c);
      room_n = inl (rw ts c.requires.room_n);
    }

pub add_up-sums-requires : goal.add_up-sums-requires
add_up-sums-requires c =
    (pairs (c.runs_into-taken.ensures.all (omega arith)) c.active_behind-part.result.now refl
    (rw c.active_behind-part.ensures (omega (arith, part-within c.args.m.now, c.requires.few)))).few

pub counted-counts-requires : goal.counted-counts-requires
counted-counts-requires c =
    record {
      few = c.requires.few;
      led = c.lead_in-lead.ensures;
      active = c.active_behind-part.ensures;
      held =
          c.add_up-sums.ensures
          ∙ ap sums_of
          (back (c.runs_into-taken.ensures.all (omega arith)) c.active_behind-part.result.now refl ∙ part-runs c.args.m.now _ c.active_behind-part.ensures);
    }

pub returns : goal.returns
returns c =
    record {
      counted = c.counted-counts.ensures;
      written = rw (part-runs c.args.m.now _ c.active_behind-part.ensures) at (c.runs_into-taken.ensures.all (omega arith));
    }
