-- `breakdown::parts::ActivePart::after` meets its contract.
-- Assumes nothing.
use native.Mathlib.Omega.{arith}
use Prim.Native.Nat.{◌-◌}
use lib.ListN.{length, drop, length-drop}
use lib.Seq.{take_all}
use Rattle.breakdown.proofs.PartByPart.{first-unread}
use Rattle.breakdown.proofs.parts.ActivePart.after.Goals as goal

pub invariant_of-result : goal.invariant_of-result
invariant_of-result c =
    let p = c.args.self in
    let n = c.args.first.length in
    record {
      unread = rw (take_all (length p.measures.now - n) (drop n p.measures.now) (simp length-drop (omega arith))) (first-unread c.requires (record { few = p.few; alternates = p.alternates }));
      within = omega arith;
    }
