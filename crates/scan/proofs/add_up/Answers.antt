-- `scan::add_up` meets its contract: the loop's invariant and its steps are `Adding`'s.
-- Assumes nothing.
use Rattle.std.proofs.Common.{rules, ◌≡◌, ◌<◌, length, get_or, length-append, arith}
use Rattle.std.proofs.lemmas.Slice.Zip.{zip_turn, zip_end}
use Rattle.scan.proofs.Adding.{small, low, added, finished}
use Rattle.scan.proofs.add_up.Goals as goal
use Rattle.scan.proofs.add_up.Goals.{In-Some}

-- this turn's token is in both slices
turn : (c : In-Some) →
    let i = length c.loop-x.yielded in
    let t = c.args.tokens in
    (i < length t.classes.now) × (c.in-Some.field-0-0.now ≡ get_or t.classes.now i 0) × (c.in-Some.field-0-1.now ≡ get_or t.lengths.now i 0)
turn c =
    let z = zip_turn c.args.tokens.classes.now c.args.tokens.lengths.now c.loop-x.yielded c.into_iter-x-iterator.result c.loop-x.x-iterator c.next.new.self c.next.result
    (search rules) (search rules) c.loop-x.yielded_by _ c.in-Some.is c.next.ensures.steps in
    (z.0, z.2 0, z.3 0)

pub add_if-requires : goal.add_if-requires
add_if-requires c =
    let g = c.loop-x.invariant in
    let t = turn (goal.at.add_if-requires c).In-Some in
    omega (arith, low g, small g t.0, t.2)

pub add_if-requires-in-loop-x : goal.add_if-requires-in-loop-x
add_if-requires-in-loop-x c =
    let g = c.loop-x.invariant in
    let t = turn (goal.at.add_if-requires-in-loop-x c).In-Some in
    omega (arith, low g, small g t.0, t.2)

pub add_if-requires-in-loop-x-2 : goal.add_if-requires-in-loop-x-2
add_if-requires-in-loop-x-2 c =
    let g = c.loop-x.invariant in
    let t = turn (goal.at.add_if-requires-in-loop-x-2 c).In-Some in
    omega (arith, low g, small g t.0, t.2)

pub add_if-requires-in-loop-x-3 : goal.add_if-requires-in-loop-x-3
add_if-requires-in-loop-x-3 c =
    let g = c.loop-x.invariant in
    let t = turn (goal.at.add_if-requires-in-loop-x-3 c).In-Some in
    omega (arith, low g, small g t.0, t.2)

pub add_if-requires-in-loop-x-4 : goal.add_if-requires-in-loop-x-4
add_if-requires-in-loop-x-4 c =
    let g = c.loop-x.invariant in
    let t = turn (goal.at.add_if-requires-in-loop-x-4 c).In-Some in
    omega (arith, low g, small g t.0, t.2)

pub add_if-requires-in-loop-x-5 : goal.add_if-requires-in-loop-x-5
add_if-requires-in-loop-x-5 c =
    let g = c.loop-x.invariant in
    let t = turn (goal.at.add_if-requires-in-loop-x-5 c).In-Some in
    omega (arith, low g, small g t.0, t.2, c.wide.ensures.low)

pub loop-x-preserved : goal.loop-x-preserved
loop-x-preserved c =
    let t = turn (goal.at.loop-x-preserved c).In-Some in
    simp length-append
    (rw (
      c.add_if.ensures,
      c.add_if-in-loop-x.ensures,
      c.add_if-in-loop-x-2.ensures,
      c.add_if-in-loop-x-3.ensures,
      c.add_if-in-loop-x-4.ensures,
      c.add_if-in-loop-x-5.ensures,
    )
    (added c.loop-x.invariant t.0 t.1 t.2 c.wide.ensures.gap))

pub returns : goal.returns
returns c =
    let t = c.args.tokens in
    let z = zip_end t.classes.now t.lengths.now c.loop-x.yielded c.into_iter-x-iterator.result c.loop-x.x-iterator c.next.new.self c.next.result
    (search rules) (search rules) c.loop-x.yielded_by c.in-None.is c.next.ensures.steps in
    finished c.loop-x.invariant (omega (arith, t.paired))
