-- `sn_to_standard::copy::put_copied` meets its contract: behind the first byte, the loop's invariant and its steps are `Reached`'s.
-- Assumes nothing.
use Prim.Native.Nat.{◌≤◌}
use lib.ListN.{drop}
use Rattle.number.specs.Place.{Room}
use Rattle.text_buffer.proofs.Reached.{Reached}
use Rattle.sn_to_standard.specs.Copied.{shown_bytes, kept}
use Rattle.sn_to_standard.proofs.copy.put_copied.Given as goal

abbrev pub invariant-loop-i : goal.invariant-loop-i
invariant-loop-i l =
    (1 ≤ l.i)
    × (l.i ≤ l.last)
    × Room l.initial.out l.initial.place (kept (drop 1 (shown_bytes 41 l.text)))
    × Reached l.initial.out l.initial.place (kept (drop 1 (shown_bytes 41 l.text))) (kept (drop l.i (shown_bytes 41 l.text))) l.out l.place
