-- `sn_text::sn::joined_part` meets its contract: the loop's steps are `SnParts`'s.
-- Assumes nothing.
use mathlib.Core.Path.{◌∙◌, sym}
use native.Mathlib.Omega.{arith}
use Rattle.number.proofs.Grown.{within}
use Rattle.sn_text.specs.SnParts.{RunPlaced}
use Rattle.sn_text.proofs.SnParts.{writing-starts, writing-ends, writing-joins, writing-room, writing-next, no-break, adjacent, adjacent-text}
use Rattle.sn_text.proofs.sn.joined_part.Given
use Rattle.sn_text.proofs.sn.joined_part.Goals as goal
use Rattle.sn_text.proofs.sn.joined_part.Goals.{Joined-this-ne0, then-this-ne0, else-this-ne0}
use Rattle.sn_text.proofs.sn.joined_part.Goals.{then-not-this+then-j-i, else-not-this+then-tokens-j, else-not-this+else-tokens-j}

pub loop-i-init : goal.loop-i-init
loop-i-init g c = let p = c.requires.1 in writing-starts _ _ _ _ _ p.tokens p.ready.few

-- the next run, found in either way
placed : {g : Given.Over} (c : Joined-this-ne0 g) → RunPlaced c.args.tokens.classes.now c.args.tokens.lengths.now c.loop-i.i c.if-this-ne0.t
placed c = elim c.if-this-ne0.branch [
  | then-this-ne0 x ↦ rw x.t-is x.dense_run_place-t.ensures
  | else-this-ne0 x ↦ rw x.t-is x.run_place-t.ensures
]

pub flush-to-requires : goal.flush-to-requires
flush-to-requires g c =
    let w = c.loop-i.invariant in
    let a = placed (goal.at.flush-to-requires g c).Joined-this-ne0 in
    let z = no-break a (omega (arith, c.if-j-i.true)) in
    let added = rw (adjacent-text c.args.limit _ _ _ _ w.opened.run z) at c.add_ended-full.ensures in
    (within _ (omega arith) added, writing-room w a (adjacent _ _ a z) added c.requires.1.room)

pub flush-to-requires-else-tokens-j : goal.flush-to-requires-else-tokens-j
flush-to-requires-else-tokens-j g c =
    let a = placed (goal.at.flush-to-requires-else-tokens-j g c).Joined-this-ne0 in
    let added = c.add_group-full.ensures in (
      within _ (omega arith) added,
      writing-room c.loop-i.invariant a (λ e. c.if-tokens-j.false (e ∙ sym c.join_class.ensures)) added c.requires.1.room,
    )

pub loop-i-preserved : goal.loop-i-preserved
loop-i-preserved g c =
    let w = c.loop-i.invariant in
    let a = placed (goal.at.loop-i-preserved g c).Joined-this-ne0 in
    elim c.if-not-this.branch [
      | then-not-this+then-j-i x ↦ let z = no-break a (omega (arith, x.if-j-i.true)) in
          rw (x.buf-is, x.out-is, x.last-is, x.to-is, x.open_run-last.ensures)
          (writing-next w a (adjacent _ _ a z) (rw (adjacent-text c.args.limit _ _ _ _ w.opened.run z) at x.add_ended-full.ensures) (omega arith)
          x.flush-to.ensures)
      | else-not-this+then-tokens-j x ↦ rw (x.buf-is, x.out-is, x.last-is, x.to-is)
          (writing-joins w a (x.if-tokens-j.true ∙ x.join_class.ensures) (omega arith) (omega arith))
      | else-not-this+else-tokens-j x ↦ rw (x.buf-is, x.out-is, x.last-is, x.to-is, x.open_run-last-else-tokens-j.ensures)
          (writing-next w a (λ e. x.if-tokens-j.false (e ∙ sym x.join_class.ensures)) x.add_group-full.ensures (omega arith)
          x.flush-to-else-tokens-j.ensures)
    ]

pub returns : goal.returns
returns g c = writing-ends c.loop-i.invariant (omega arith)
