-- `sn_text::sn::detailed_part` meets its contract: the loop's steps are `SnParts`'s.
-- Assumes nothing.
use Prim.Native.Nat.{◌-◌, ◌<◌}
use mathlib.Core.Path.{◌≡◌}
use native.Mathlib.Omega.{arith}
use lib.ListN.{length, get_or, length-append}
use Rattle.number.proofs.Grown.{within}
use Rattle.text_buffer.proofs.Reading.{tokens-low}
use Rattle.sn_text.proofs.SnParts.{listing-low, listing-room, listing-next, first-room, others-room, listing-ends}
use Rattle.sn_text.proofs.Zipped.{front_turn, front_end}
use Rattle.sn_text.proofs.sn.detailed_part.Goals as goal
use Rattle.sn_text.proofs.sn.detailed_part.Goals.{In-Some}

pub add_ended-first-requires : goal.add_ended-first-requires
add_ended-first-requires c = (omega arith, tokens-low c.requires.tokens)

pub flush-to-requires : goal.flush-to-requires
flush-to-requires c =
    let g = c.add_ended-first.ensures in
    (within _ (omega arith) g, first-room _ _ _ c.args.tokens.paired c.requires.tokens (λ z. c.if-len-eq0.false (omega (arith, z))) g c.requires.room)

-- this turn's token
turn : (c : In-Some) → let l = c.loop-class in
    (length l.yielded < c.len-last.result - 1) × (c.in-Some.class.now ≡ get_or c.args.tokens.classes.now (length l.yielded) 0)
    × (c.in-Some.n.now ≡ get_or c.args.tokens.lengths.now (length l.yielded) 0)
turn c =
    let l = c.loop-class in
    front_turn _ _ (c.len-last.result - 1) c.args.tokens.paired (omega arith) l.yielded c.into_iter-class-iterator.result l.class-iterator c.next.new.self
    c.next.result (cc) (cc) l.yielded_by c.next.ensures.steps (c.in-Some.class, c.in-Some.n) c.in-Some.is

pub add_token-full-requires : goal.add_token-full-requires
add_token-full-requires c =
    let t = turn (goal.at.add_token-full-requires c).In-Some in
    let i = c.loop-class.invariant in
    (omega (arith, i.wrote.long, i.wrote.few), rw t.1 (listing-low i c.args.tokens.paired (omega (arith, t.0))))

pub flush-to-requires-in-loop-class : goal.flush-to-requires-in-loop-class
flush-to-requires-in-loop-class c =
    let p = c.args.tokens.paired in
    let t = turn (goal.at.flush-to-requires-in-loop-class c).In-Some in
    let i = c.loop-class.invariant in
    let g = rw (t.1, t.2) at c.add_token-full.ensures in (
      within _ (omega (arith, i.wrote.long, i.wrote.few)) g,
      listing-room i p (omega (arith, t.0)) g
          (others-room _ _ _ p c.requires.tokens (λ z. c.if-len-eq0.false (omega (arith, z))) c.add_ended-first.ensures c.flush-to.ensures c.requires.room),
    )

pub loop-class-preserved : goal.loop-class-preserved
loop-class-preserved c =
    let t = turn (goal.at.loop-class-preserved c).In-Some in
    rw length-append
    (listing-next c.loop-class.invariant c.args.tokens.paired (omega (arith, t.0)) (rw (t.1, t.2) at c.add_token-full.ensures)
    c.flush-to-in-loop-class.ensures)

pub returns : goal.returns
returns c =
    let p = c.args.tokens.paired in
    let l = c.loop-class in
    let m = c.len-last.result - 1 in
    let e = front_end c.args.tokens.classes.now c.args.tokens.lengths.now m p (omega arith) l.yielded c.into_iter-class-iterator.result l.class-iterator c.next.new.self c.next.result
    (cc) (cc) l.yielded_by c.next.ensures.steps c.in-None.is in
    rw c.open_run.ensures
    (listing-ends _ _ _ p c.requires.tokens (λ z. c.if-len-eq0.false (omega (arith, z))) c.add_ended-first.ensures c.flush-to.ensures l.invariant m e
    (omega arith) (omega arith))
