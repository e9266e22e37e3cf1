-- `measures::active::skip` meets its contract: stretches within bounds join.
-- Assumes nothing.
use Rattle.std.proofs.Common.{◌≡◌, ℕ, ◌-◌, length, drop, sym, ap, ◌∙◌, take_all, length-drop, length-append, arith}
use Rattle.std.proofs.lemmas.List.{drop_at, drop-drop}
use Rattle.measures.proofs.Stretch.{none, joined, placed}
use Rattle.measures.proofs.active.skip.Goals as goal

pub loop-block-init : goal.loop-block-init
loop-block-init c =
    let p = c.args in
    let all = take_all (length p.m.now - p.from) (drop p.from p.m.now) (simp length-drop (omega arith)) in
    rw (c.into_iter-block-iterator.ensures.into_iter_gives)
    (none _ _ _ _ c.requires.within, c.chunks_exact-block-items.ensures.size, sym (c.chunks_exact-block-items.ensures.rest ∙ all))

pub returns-then-not-all_within : goal.returns-then-not-all_within
returns-then-not-all_within c = c.loop-block.invariant.0

pub overflow_add-i : goal.overflow_add-i
overflow_add-i c =
    let l = c.loop-block in
    let s = c.in-Some.ensures.steps in
    omega (arith, l.invariant.0.within, l.invariant.1, s.1.1, ap length (l.invariant.2 ∙ s.1.0), length-append {A = ℕ}, length-drop {A = ℕ})

pub loop-block-preserved : goal.loop-block-preserved
loop-block-preserved c =
    let l = c.loop-block in
    let s = c.in-Some.ensures.steps in
    let p = c.args in
    let block = c.in-Some.block.now in
    let eight : length block ≡ 8 = s.1.1 ∙ l.invariant.1 in
    let at = l.invariant.2 ∙ s.1.0 in
    let more = placed p.m.now p.lo p.more l.i block _ l.invariant.0.within at (c.all_within.ensures c.if-not-all_within.false) in (
      joined _ _ _ l.invariant.0 (rw eight at more),
      s.0 ∙ l.invariant.1,
      sym (drop-drop 8 l.i p.m.now) ∙ ap (drop 8) at ∙ drop_at block _ 8 eight,
    )

pub returns : goal.returns
returns c = c.loop-block.invariant.0
