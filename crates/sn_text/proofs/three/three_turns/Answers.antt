-- `sn_text::three::three_turns` meets its contract: each text's steps are `SnThree`'s.
-- Assumes nothing.
use native.Mathlib.Omega.{arith}
use Rattle.sn_text.proofs.SnParts.{no-break}
use Rattle.sn_text.proofs.SnThree.{walking-next, walking-ends}
use Rattle.sn_text.proofs.three.three_turns.Goals as goal
use Rattle.sn_text.proofs.three.three_turns.Goals.{else-j-i, then-j-i}

pub loop-i-preserved : goal.loop-i-preserved
loop-i-preserved c =
    let w = c.loop-i.invariant in
    let a = c.run_place-t.ensures in
    let e = c.open_run-next.ensures in
    elim c.if-j-i.branch [
      | then-j-i x ↦ let b = rw (no-break a (omega (arith, x.if-j-i.true))) at a in
          rw (x.detailed-is, x.partial-is, x.simplified-is, x.a-is, x.b-is, x.c-is) (
            walking-next w.0 b (rw e at (x.adjacent_turn-a.ensures 0)),
            walking-next w.1 b (rw e at (x.adjacent_turn-b.ensures 1)),
            walking-next w.2 b (rw e at (x.adjacent_turn-c.ensures 4)),
          )
      | else-j-i x ↦ rw (x.detailed-is, x.partial-is, x.simplified-is, x.a-is, x.b-is, x.c-is) (
        walking-next w.0 a (rw e at x.detailed_turn-a.ensures),
        walking-next w.1 a (rw e at x.joined_turn-b.ensures),
        walking-next w.2 a (rw e at x.joined_turn-c.ensures),
      )
    ]

pub returns : goal.returns
returns c =
    let w = c.loop-i.invariant in
    let p = c.requires in
    record {
      detailed = walking-ends w.0 (omega arith) p.room_first;
      partial = walking-ends w.1 (omega arith) p.room_second;
      simplified = walking-ends w.2 (omega arith) p.room_third;
    }
