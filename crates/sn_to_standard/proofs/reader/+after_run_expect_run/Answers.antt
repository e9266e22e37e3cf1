-- `sn_to_standard::reader::after_run` and `expect_run`, which call each other, meet their contracts: each call stands further on in the text.
-- Assumes nothing.
use Prim.Native.Nat.{ℕ, ◌+◌}
use mathlib.Core.Path.{sym, ◌∙◌}
use mathlib.Core.Logic.{inl}
use native.Mathlib.Omega.{arith}
use Rattle.sn_to_standard.specs.Items.{SomeRun, SomeBreak}
use Rattle.sn_to_standard.proofs.Descents.{run-number, run-many, run-next, Opened, opened, break-none, break-number, break-many, passed_on}
use Rattle.sn_to_standard.proofs.reader.+after_run_expect_run.Goals as goal
use Rattle.sn_to_standard.proofs.reader.+after_run_expect_run.Goals.{after_run-Else-not-opens_at, after_run-Else-gap-eq0, expect_run-Else-run-eq0}

-- a break begins
opening : {t : ℕ} (c : after_run-Else-not-opens_at t) → Opened c.args.text.now c.args.at c.args.class c.args.measures
opening c =
    opened c.requires c.args.undecided c.if-at-text.false c.if-text-at-ne32.false (sym c.opens_at.ensures ∙ c.if-not-opens_at.false)

-- a break was found
break_found : {t : ℕ} (c : after_run-Else-gap-eq0 t) → SomeBreak c.args.text.now (c.args.at + 2) c.read_break-gap.result
break_found c = c.read_break-gap.ensures.some (omega (arith, c.if-gap-eq0.false))

pub after_run-returns-then-not-opens_at : goal.after_run-returns-then-not-opens_at
after_run-returns-then-not-opens_at t c =
    passed_on
    (run-next c.requires c.args.undecided c.if-at-text.false c.if-text-at-ne32.false (sym c.opens_at.ensures ∙ c.if-not-opens_at.true))
    (omega arith)
    c.expect_run.ensures

pub after_run-returns-then-gap-eq0 : goal.after_run-returns-then-gap-eq0
after_run-returns-then-gap-eq0 t c =
    let o = opening (goal.at.after_run-returns-then-gap-eq0 t c).Else-not-opens_at in
    inl (break-none o c.args.undecided c.read_break-gap.ensures c.if-gap-eq0.true, omega arith)

pub after_run-returns-then-more-gt1048576 : goal.after_run-returns-then-more-gt1048576
after_run-returns-then-more-gt1048576 t c =
    let o = opening (goal.at.after_run-returns-then-more-gt1048576 t c).Else-not-opens_at in
    let b = break_found (goal.at.after_run-returns-then-more-gt1048576 t c).Else-gap-eq0 in
    inl (break-many o c.args.undecided b c.if-more-gt1048576.true, omega arith)

pub after_run-returns : goal.after_run-returns
after_run-returns t c =
    let o = opening (goal.at.after_run-returns t c).Else-not-opens_at in
    let b = break_found (goal.at.after_run-returns t c).Else-gap-eq0 in
    passed_on (break-number o c.args.undecided b) (omega (arith, b.further)) c.expect_run-2.ensures

-- a run was found
run_found : {t : ℕ} (c : expect_run-Else-run-eq0 t) → SomeRun c.args.text.now c.args.at c.read_run-run.result
run_found c = c.read_run-run.ensures.some (omega (arith, c.if-run-eq0.false))

pub expect_run-returns-then-more-gt1048576 : goal.expect_run-returns-then-more-gt1048576
expect_run-returns-then-more-gt1048576 t c =
    let q = run_found (goal.at.expect_run-returns-then-more-gt1048576 t c).Else-run-eq0 in
    inl (run-many c.requires c.args.undecided q c.measures_with-more.ensures c.if-more-gt1048576.true, omega arith)

pub expect_run-returns : goal.expect_run-returns
expect_run-returns t c =
    let q = run_found (goal.at.expect_run-returns t c).Else-run-eq0 in
    passed_on (run-number c.requires c.args.undecided q c.measures_with-more.ensures c.undecided_with-unsure.ensures) q.further c.after_run.ensures
