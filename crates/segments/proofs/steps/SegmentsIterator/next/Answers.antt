-- The iterator `segments::steps::Segments` meets its contract.
-- Assumes nothing.
use Rattle.std.proofs.Common.{length, rules, ap}
use Rattle.segments.proofs.Stretches.{wide_step, done-step, piece_step}
use Rattle.segments.proofs.steps.SegmentsIterator.next.Goals as goal

pub returns-then-gap_end-at-ge2-clause-steps : goal.returns-then-gap_end-at-ge2-clause-steps
returns-then-gap_end-at-ge2-clause-steps c = wide_step _ _ _ c.stretch_end-gap_end.ensures c.if-gap_end-at-ge2.true

pub returns-then-gap_end-at-ge2-clause-goes : goal.returns-then-gap_end-at-ge2-clause-goes
returns-then-gap_end-at-ge2-clause-goes c =
    let s = c.args.self.now in
    let one = ap length (wide_step s.measures.now s.at _ c.stretch_end-gap_end.ensures c.if-gap_end-at-ge2.true) in
    search rules

pub returns-then-self-gap_end-clause-steps : goal.returns-then-self-gap_end-clause-steps
returns-then-self-gap_end-clause-steps c =
    let s = c.args.self.now in
    let none = done-step s.measures.now s.at _ c.stretch_end-gap_end.ensures c.if-gap_end-at-ge2.false c.if-self-gap_end.true in
    (none, none)

pub returns-clause-steps : goal.returns-clause-steps
returns-clause-steps c = piece_step _ _ _ c.stretch_end-gap_end.ensures c.if-gap_end-at-ge2.false _ c.stretch_end-end.ensures c.if-self-gap_end.false

pub returns-clause-goes : goal.returns-clause-goes
returns-clause-goes c =
    let s = c.args.self.now in
    let one = ap length (piece_step s.measures.now s.at _ c.stretch_end-gap_end.ensures c.if-gap_end-at-ge2.false _ c.stretch_end-end.ensures c.if-self-gap_end.false) in
    search rules
