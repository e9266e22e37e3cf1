-- `scan::runs_into` meets its contract: the loop's invariant and its steps are `ScanInvariant`'s.
-- Assumes nothing.
use Rattle.std.proofs.Common.{ℕ, ◌+◌, ◌-◌, ◌≤◌, ◌<◌, ◌≡◌, eqb, false, sym, List, length, set, get_or, arith}
use borrow.Author.Tests.{eqb-false}
use Rattle.rules.specs.Chart.{class_of}
use Rattle.scan.specs.Scan.{ScanAsked, ScanInvariant, Steps}
use Rattle.scan.proofs.ScanInvariant.{starts, room, skipped, places, stopped, finished}
use Rattle.scan.proofs.runs_into.Goals as goal
use Rattle.scan.proofs.runs_into.Goals.{At-loop-i, After-run_on-j}

-- there is a measure
some : (m : List ℕ) → false ≡ eqb (length m) 0 → 0 < length m
some m e = omega (arith, eqb-false (length m) 0 (sym e))

-- where the loop begins: k is the class of the first measure
entry : (m cs ns : List ℕ) (most : ℕ) {k : ℕ} → 0 < length m → ScanAsked m cs ns most → k ≡ class_of (get_or m 0 0)
    → ScanInvariant m cs ns (set cs 0 k) (set ns 0 1) most k 1 0 1
entry m cs ns most some p e = rw e (starts m cs ns most some p.room_c p.room_n)

-- what the loop's invariant says of what the function's entry knows
reached : (c : At-loop-i) →
    let s = c.args in
    let l = c.loop-i in
    ScanInvariant s.m.now s.cs.now s.ns.now l.cs l.ns s.most l.p.class l.p.length l.p.place l.i
reached c = c.loop-i.invariant _ _ (entry _ _ _ _ (some _ c.if-is_empty.ensures) c.requires c.class_at-class.ensures)

-- over measures of the pending class
on : (c : After-run_on-j) (old new : List ℕ) →
    let s = c.args in
    let l = c.loop-i in
    let n = l.p.length + (c.run_on-j.result - l.i) in
    ScanInvariant s.m.now old new l.cs l.ns s.most l.p.class l.p.length l.p.place l.i
    → ScanInvariant s.m.now old new l.cs (set l.ns l.p.place n) s.most l.p.class n l.p.place c.run_on-j.result
on c old new g = skipped g c.run_on-j.ensures

-- what `steps_into` asks behind them
ready : (c : After-run_on-j) (count : ℕ) →
    let s = c.args in
    let l = c.loop-i in
    let n = l.p.length + (c.run_on-j.result - l.i) in
    c.run_on-j.result + count ≤ length s.m.now
    → count ≤ 16
    → ScanInvariant s.m.now s.cs.now s.ns.now l.cs l.ns s.most l.p.class l.p.length l.p.place l.i
    → Steps s.m.now c.run_on-j.result count l.cs (set l.ns l.p.place n) (record { class = l.p.class; length = n; place = l.p.place })
ready c count h b g =
    record {
      few = c.requires.few;
      within = h;
      most = c.args.most;
      low = omega (arith, c.if-p-most.false);
      old = c.args.cs.now;
      new = c.args.ns.now;
      invariant = on c _ _ g;
    }

pub bounds-cs-0 : goal.bounds-cs-0
bounds-cs-0 c =
    room c.args.m.now c.args.cs.now c.args.ns.now c.args.most (some _ c.if-is_empty.ensures) c.args.cs.now c.requires.room_c

pub bounds-ns-0 : goal.bounds-ns-0
bounds-ns-0 c =
    room c.args.m.now c.args.cs.now c.args.ns.now c.args.most (some _ c.if-is_empty.ensures) c.args.ns.now c.requires.room_n

pub overflow_sub-result : goal.overflow_sub-result
overflow_sub-result c =
    let invariant = reached (goal.at.overflow_sub-result c).At-loop-i in
    omega (arith, invariant.sum)

pub returns-then-p-most : goal.returns-then-p-most
returns-then-p-most c =
    let invariant = reached (goal.at.returns-then-p-most c).At-loop-i in
    stopped invariant c.loop-i-test.true c.if-p-most.true

pub run_on-j-requires : goal.run_on-j-requires
run_on-j-requires c =
    let invariant = reached (goal.at.run_on-j-requires c).At-loop-i in
    (omega arith, invariant.small)

pub overflow_add-p : goal.overflow_add-p
overflow_add-p c =
    let invariant = reached (goal.at.overflow_add-p c).At-loop-i in
    omega (arith, invariant.sum, c.run_on-j.ensures.within)

pub offset_bounds-ns-p : goal.offset_bounds-ns-p
offset_bounds-ns-p c =
    let invariant = reached (goal.at.offset_bounds-ns-p c).At-loop-i in
    omega (arith, invariant.few)

pub bounds-ns-p : goal.bounds-ns-p
bounds-ns-p c =
    let invariant = reached (goal.at.bounds-ns-p c).At-loop-i in
    (places invariant).1

pub steps_into-p-requires : goal.steps_into-p-requires
steps_into-p-requires c =
    let g = goal.at.steps_into-p-requires c in
    ready g.After-run_on-j 8 (omega arith) (omega arith) (reached g.At-loop-i)

pub steps_into-p-requires-then-m-j-gt16 : goal.steps_into-p-requires-then-m-j-gt16
steps_into-p-requires-then-m-j-gt16 c =
    let invariant = reached (goal.at.steps_into-p-requires-then-m-j-gt16 c).At-loop-i in
    record {
      few = c.requires.few;
      within = omega arith;
      most = c.args.most;
      low = omega (arith, c.steps_into-p.ensures.near, c.if-p-most.false);
      old = c.args.cs.now;
      new = c.args.ns.now;
      invariant = c.steps_into-p.ensures.onward _ _ _ (omega (
        arith,
        c.if-p-most.false,
      )) (on (goal.at.steps_into-p-requires-then-m-j-gt16 c).After-run_on-j _ _ invariant);
    }

pub loop-i-preserved-then-m-j-gt16 : goal.loop-i-preserved-then-m-j-gt16
loop-i-preserved-then-m-j-gt16 c =
    let e : c.run_on-j.result + 8 + 8 ≡ c.run_on-j.result + 16 = omega arith in
    λ old new g.
    rw e at
    (c.steps_into-p-then-m-j-gt16.ensures.onward _ old new (omega (arith, c.steps_into-p.ensures.near, c.if-p-most.false))
    (c.steps_into-p.ensures.onward _ old new (omega (arith, c.if-p-most.false)) (on (goal.at.loop-i-preserved-then-m-j-gt16 c).After-run_on-j old new (c.loop-i.invariant old new g))))

pub steps_into-p-requires-else-m-j-gt16 : goal.steps_into-p-requires-else-m-j-gt16
steps_into-p-requires-else-m-j-gt16 c =
    let g = goal.at.steps_into-p-requires-else-m-j-gt16 c in
    ready g.After-run_on-j _ (omega (arith, c.run_on-j.ensures.within)) (omega arith) (reached g.At-loop-i)

pub loop-i-preserved : goal.loop-i-preserved
loop-i-preserved c =
    let m = c.args.m.now in
    let e : c.run_on-j.result + (length m - c.run_on-j.result) ≡ length m = omega (arith, c.run_on-j.ensures.within) in
    λ old new g.
    rw e at (c.steps_into-p-else-m-j-gt16.ensures.onward _ old new (omega (
      arith,
      c.if-p-most.false,
    )) (on (goal.at.loop-i-preserved c).After-run_on-j old new (c.loop-i.invariant old new g)))

pub overflow_add-result : goal.overflow_add-result
overflow_add-result c =
    let invariant = reached (goal.at.overflow_add-result c).At-loop-i in
    omega arith

pub returns : goal.returns
returns c =
    let invariant = reached (goal.at.returns c).At-loop-i in
    finished invariant c.loop-i-test.false
