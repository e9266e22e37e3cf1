-- `standard_text::three::three_pieces` meets its contract.
-- Assumes nothing.
use native.Mathlib.Omega.{arith}
use Rattle.standard_text.proofs.StandardThree.{walking_run, gap_at, gap-few}
use Rattle.standard_text.proofs.StandardThree.{walking-gap, walking-shown, walking-room, walking-ends}
use Rattle.standard_text.proofs.three.three_pieces.Goals as goal

pub loop-i-preserved-then-tokens-i-ne0 : goal.loop-i-preserved-then-tokens-i-ne0
loop-i-preserved-then-tokens-i-ne0 c =
    let i = c.loop-i.invariant in
    let l = c.loop-i-test.true in
    let r = c.if-tokens-i-ne0.true in
    let e = c.run_turn-t.ensures in
    rw (e.piece, e.joined, e.star, e.detailed, e.partial, e.simple) (walking_run i.0 l r, walking_run i.1 l r, walking_run i.2 l r)

pub bounds-tokens-next : goal.bounds-tokens-next
bounds-tokens-next c =
    let s = c.loop-i.invariant.0.standing in
    omega (arith, (gap_at s c.loop-i-test.true c.if-tokens-i-ne0.false).inside, s.long)

pub gap_turn-t-requires : goal.gap_turn-t-requires
gap_turn-t-requires c =
    let p = c.requires in
    let i = c.loop-i.invariant in
    let l = c.loop-i-test.true in
    let z = c.if-tokens-i-ne0.false in
    record {
      some = (gap_at i.2.standing l z).some;
      fits = omega (arith, gap-few i.2 l z);
      first = walking-room i.0 p.room_first;
      second = walking-room i.1 p.room_second;
      third = walking-room i.2 p.room_third;
    }

pub loop-i-preserved : goal.loop-i-preserved
loop-i-preserved c =
    let i = c.loop-i.invariant in
    let l = c.loop-i-test.true in
    let z = c.if-tokens-i-ne0.false in
    let some = (gap_at i.0.standing l z).some in
    let e = c.gap_turn-t.ensures in
    let s = e.simple in (
      rw e.piece (walking-shown i.0 l z some e.detailed),
      rw e.piece (walking-shown i.1 l z some e.partial),
      walking-gap i.2 l z s.text s.grown (s.short (omega (arith, gap-few i.2 l z))) s.small,
    )

pub returns : goal.returns
returns c =
    let i = c.loop-i.invariant in
    let p = c.requires in
    let t = c.loop-i-test.false in
    record {
      detailed = walking-ends i.0 p.room_first t;
      partial = walking-ends i.1 p.room_second t;
      simple = walking-ends i.2 p.room_third t;
    }
