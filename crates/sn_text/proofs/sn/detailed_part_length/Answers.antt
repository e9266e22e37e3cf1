-- `sn_text::sn::detailed_part_length` meets its contract: the loop's steps are `SnParts`'s.
-- Assumes nothing.
use Prim.Native.Nat.{◌-◌}
use mathlib.Core.Path.{refl}
use native.Mathlib.Omega.{arith}
use lib.ListN.{length-append}
use Rattle.sn_text.proofs.SnParts.{summing-next, summing-ends}
use Rattle.sn_text.proofs.Zipped.{front_turn, front_end}
use Rattle.sn_text.proofs.sn.detailed_part_length.Goals as goal

pub loop-class-preserved : goal.loop-class-preserved
loop-class-preserved c =
    let p = c.args.tokens.paired in
    let l = c.loop-class in
    let t = front_turn _ _ (c.len-last.result - 1) p (omega arith) l.yielded c.into_iter-class-iterator.result l.class-iterator c.next.new.self c.next.result
    (cc) (cc) l.yielded_by c.next.ensures.steps (c.in-Some.class, c.in-Some.n) c.in-Some.is in
    rw length-append (summing-next l.invariant p (omega (arith, t.0)) (rw (t.1, t.2) at c.token_length-total.ensures))

pub returns : goal.returns
returns c =
    let p = c.args.tokens.paired in
    let l = c.loop-class in
    let m = c.len-last.result - 1 in
    let e = front_end c.args.tokens.classes.now c.args.tokens.lengths.now m p (omega arith) l.yielded c.into_iter-class-iterator.result l.class-iterator c.next.new.self c.next.result
    (cc) (cc) l.yielded_by c.next.ensures.steps c.in-None.is in
    rw c.open_run.ensures
    (summing-ends l.invariant _ _ _ p c.requires (λ z. c.if-len-eq0.false (omega (arith, z))) c.run_length-total.ensures refl m e (omega arith) (omega arith))
