-- `scan::steps_into` meets its contract: the loop's invariant and its steps are `ScanInvariant`'s.
-- Assumes nothing.
use Rattle.std.proofs.Common.{ℕ, ◌+◌, ◌-◌, ◌<◌, ◌≡◌, ◌∙◌, sym, List, length, get_or, take, drop, set, length-set, length-take, arith}
use Rattle.std.proofs.Math.Seq.{get_or-take, get_or-drop}
use Rattle.rules.specs.Chart.{class_of}
use Rattle.scan.specs.Scan.{ScanInvariant}
use Rattle.scan.proofs.ScanInvariant.{same, other, places}
use Rattle.scan.proofs.steps_into.Goals as goal
use Rattle.scan.proofs.steps_into.Goals.{In-loop-d, Joined-class-p, else-class-p, then-class-p}

-- a measure of the lent part
measure : (m : List ℕ) (f n t : ℕ) → t < n → get_or (take (f + n - f) (drop f m)) t 0 ≡ get_or m (f + t) 0
measure m f n t h = let l : t < f + n - f = omega arith in rw (get_or-take, get_or-drop)

-- what the loop's invariant says of what the function's entry knows
reached : (c : In-loop-d) →
    let p = c.requires in
    let l = c.loop-d in
    ScanInvariant c.args.m.now p.old p.new l.cs l.ns p.most l.p.class l.p.length l.p.place (c.args.from + l.d-index)
reached c = let p = c.requires in c.loop-d.invariant.0 p.most p.old p.new (omega arith) p.invariant

-- one more measure
step : (c : Joined-class-p) (most : ℕ) (old new : List ℕ) →
    let s = c.args in
    let l = c.loop-d in
    let d = c.class_at-class.result in
    let q = c.if-class-p.p in
    l.p.place + 1 < most + 17
    → ScanInvariant s.m.now old new l.cs l.ns most l.p.class l.p.length l.p.place (s.from + l.d-index)
    → ScanInvariant s.m.now old new (set l.cs q.place d) (set l.ns q.place q.length) most d q.length q.place (s.from + (l.d-index + 1))
step c most old new h g =
    let f = c.args.from in
    let t = c.loop-d.d-index in
    let b : t < c.args.count = omega (arith, length-take (f + c.args.count - f) (drop f c.args.m.now)) in
    let d : c.class_at-class.result ≡ class_of (get_or c.args.m.now (f + t) 0) = rw (← (measure c.args.m.now f c.args.count t b)) c.class_at-class.ensures in
    let e : f + (t + 1) ≡ f + t + 1 = omega arith in
    elim c.if-class-p.branch [
      | then-class-p w ↦ rw (e, w.p-is, d) (other g (omega arith) (λ q. w.if-class-p.true (d ∙ q)) h)
      | else-class-p w ↦ rw (e, w.p-is, d) (same g (omega arith) (sym d ∙ w.if-class-p.false))
    ]

-- the token that is written has its place
kept : (c : Joined-class-p) →
    let l = c.loop-d in
    (c.if-class-p.p.place < length l.cs) × (c.if-class-p.p.place < length l.ns)
kept c =
    let p = c.requires in
    let invariant = c.loop-d.invariant.0 p.most p.old p.new (omega arith) p.invariant in
    simp length-set at (places (step c p.most p.old p.new (omega arith) invariant))

pub overflow_add-p : goal.overflow_add-p
overflow_add-p c = let g = reached (goal.at.overflow_add-p c).In-loop-d in omega (arith, g.sum)

pub bounds-cs-p : goal.bounds-cs-p
bounds-cs-p c = (kept (goal.at.bounds-cs-p c).Joined-class-p).0

pub bounds-ns-p : goal.bounds-ns-p
bounds-ns-p c = (kept (goal.at.bounds-ns-p c).Joined-class-p).1

pub loop-d-preserved : goal.loop-d-preserved
loop-d-preserved c =
    let l = c.loop-d in (
      λ most old new h g. step (goal.at.loop-d-preserved c).Joined-class-p most old new (omega arith) (l.invariant.0 most old new (omega arith) g),
      omega (arith, length-take (c.args.from + c.args.count - c.args.from) (drop c.args.from c.args.m.now)),
      elim c.if-class-p.branch [ then-class-p w ↦ rw w.p-is (omega arith) | else-class-p w ↦ rw w.p-is (omega arith) ],
    )
