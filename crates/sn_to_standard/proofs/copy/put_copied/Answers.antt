-- `sn_to_standard::copy::put_copied` meets its contract: behind the first byte, the loop's invariant and its steps are `Reached`'s.
-- Assumes nothing.
use Prim.Native.Nat.{ℕ, ◌+◌, ◌-◌, ◌≤◌}
use mathlib.Core.Path.{◌≡◌}
use mathlib.Core.List.{List}
use native.Mathlib.Omega.{arith}
use lib.ListN.{length, drop, get_or}
use Rattle.number.specs.Place.{Room}
use Rattle.number.proofs.Place.{wrote}
use Rattle.text_buffer.proofs.Reached.{Reached, room, room-part, on, ends}
use Rattle.sn_to_standard.specs.Copied.{Block, shown_bytes, kept_byte, kept}
use Rattle.sn_to_standard.proofs.Blocks.{kept-part, copied-first, copied-last}
use Rattle.sn_to_standard.proofs.copy.put_copied.Goals as goal
use Rattle.sn_to_standard.proofs.copy.put_copied.Goals.{After-min, After-put_block-place, Left-loop-i, else-loop-i-test, then-loop-i-test+else-last-i-gt256}

-- a block of n bytes lies before the last byte
block : (c : After-min) → Block c.args.text.now c.loop-i.i c.min.result
block c = record { first = omega arith; last = omega (arith, c.min.ensures); short = omega (arith, c.min.ensures) }

pub put_block-place-requires : goal.put_block-place-requires
put_block-place-requires c =
    let l = c.loop-i in (
      block (goal.at.put_block-place-requires c).After-min,
      room-part l.invariant.3 _ _ (kept-part (shown_bytes 41 c.args.text.now) l.i c.min.result) l.invariant.2,
    )

-- what is left after it
on_block : (c : After-put_block-place) →
    let shown = shown_bytes 41 c.args.text.now in
    Reached c.put_end-place.new.out c.put_end-place.result (kept (drop 1 shown)) (kept (drop (c.loop-i.i + c.min.result) shown)) c.put_block-place.new.out c.put_block-place.result
on_block c = on c.loop-i.invariant.3 _ _ (kept-part (shown_bytes 41 c.args.text.now) c.loop-i.i c.min.result) c.put_block-place.ensures

pub loop-i-preserved : goal.loop-i-preserved
loop-i-preserved c =
    let l = c.loop-i in
    let e : c.min.result ≡ 256 = omega (arith, c.min.ensures) in (
      omega arith,
      omega arith,
      l.invariant.2,
      rw e at (on_block (goal.at.loop-i-preserved c).After-put_block-place),
    )

-- when the blocks are done, the last byte is left
last_byte : (text : List ℕ) (i : ℕ) → 1 ≤ length text → i ≡ length text - 1 → kept (drop i (shown_bytes 41 text)) ≡ kept_byte (get_or text (length text - 1) 0)
last_byte text i h e = rw e (copied-last text (length text - 1) (omega arith))

left : (c : Left-loop-i)
    → let text = c.args.text.now in
    let p = c.put_end-place in
    let shown = kept (drop 1 (shown_bytes 41 text)) in
    Room p.new.out p.result shown × Reached p.new.out p.result shown (kept_byte (get_or text (length text - 1) 0)) c.loop-i-test.out c.loop-i-test.place
left c =
    let text = c.args.text.now in
    let l = c.loop-i in (
      l.invariant.2,
      elim c.loop-i-test.branch [
        | else-loop-i-test w ↦ rw (w.out-is, w.place-is, ← (last_byte text l.i c.requires.0 (omega arith))) l.invariant.3
        | then-loop-i-test+else-last-i-gt256 w ↦
            rw (w.out-is, w.place-is, ← (last_byte text (l.i + w.min.result) c.requires.0 (omega (arith, w.min.ensures))))
            (on l.invariant.3 _ _ (kept-part (shown_bytes 41 text) l.i w.min.result) w.put_block-place.ensures)
      ],
    )

pub put_end-requires : goal.put_end-requires
put_end-requires c = let p = left (goal.at.put_end-requires c).Left-loop-i in room p.1 p.0

pub returns : goal.returns
returns c =
    rw (copied-first c.args.text.now c.requires.0) (wrote _ _ c.put_end-place.ensures (ends (left (goal.at.returns c).Left-loop-i).1 c.put_end.ensures))
