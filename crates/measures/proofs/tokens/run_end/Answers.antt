-- `measures::tokens::run_end` meets its contract. The loop's invariant: the first n measures from `at` on are of the class.
-- Assumes nothing.
use Rattle.std.proofs.Common.{◌≡◌, ◌+◌, sym, ap, ◌∙◌, arith}
use Rattle.rules.specs.Chart.{class_of}
use Rattle.measures.proofs.Part.{rest-place, rest-length}
use Rattle.measures.proofs.Stepping.{run-stop, run_more, run_end}
use Rattle.measures.proofs.tokens.run_end.Goals as goal

pub returns-then-class_of-class : goal.returns-then-class_of-class
returns-then-class_of-class c =
    let a = c.args in
    let l = c.loop-n in
    let class = c.class_of.ensures ∙ ap class_of (rest-place a.m.now a.at l.n) in
    omega (arith, l.invariant, run-stop a.m.now (a.at + l.n) a.class (omega (arith, rest-length a.m.now a.at)) (λ e. c.if-class_of-class.true (class ∙ sym e)))

pub loop-n-preserved : goal.loop-n-preserved
loop-n-preserved c =
    let a = c.args in
    let l = c.loop-n in
    let class = c.class_of.ensures ∙ ap class_of (rest-place a.m.now a.at l.n) in
    let next : a.at + (l.n + 1) ≡ a.at + l.n + 1 = omega arith in
    rw next (omega (arith, l.invariant, run_more a.m.now (a.at + l.n) a.class (omega (arith, rest-length a.m.now a.at)) (sym c.if-class_of-class.false ∙ class)))

pub returns : goal.returns
returns c =
    let a = c.args in
    let l = c.loop-n in
    omega (arith, l.invariant, rest-length a.m.now a.at, run_end a.m.now (a.at + l.n) a.class (omega (arith, rest-length a.m.now a.at)))
