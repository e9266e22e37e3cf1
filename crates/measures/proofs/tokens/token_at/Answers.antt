-- `measures::tokens::token_at` meets its contract.
-- Assumes nothing.
use Rattle.std.proofs.Common.{[], ⊎_elim, arith, rules, leb-false}
use Rattle.rules.proofs.Domain.{all-admitted, none-admitted}
use Rattle.rules.proofs.View.{run_fits}
use Rattle.measures.proofs.Stepping.{ended_at, token-from}
use Rattle.measures.proofs.tokens.token_at.Goals as goal

pub returns-then-m-gt-MOST_MEASURES : goal.returns-then-m-gt-MOST_MEASURES
returns-then-m-gt-MOST_MEASURES c =
    let a = c.args in
    ⊎_elim
    (λ w. rw (none-admitted a.m.now w) (ended_at [] a.at (omega arith)))
    (λ w. rw (all-admitted a.m.now w.0) (ended_at a.m.now a.at w.1))
    c.then-m-gt-MOST_MEASURES.either

pub run_end-end-requires : goal.run_end-end-requires
run_end-end-requires c = record { few = search rules; within = omega (arith, leb-false) }

pub overflow_cast-result : goal.overflow_cast-result
overflow_cast-result c =
    omega (arith, c.run_end-end.ensures, run_fits c.args.m.now c.args.at c.class_of-class.result (omega (arith, leb-false)))

pub returns : goal.returns
returns c =
    rw (all-admitted c.args.m.now (omega arith))
    (token-from c.args.m.now c.args.at (omega (arith, leb-false)) _ _ c.class_of-class.ensures (omega (arith, c.run_end-end.ensures)))
