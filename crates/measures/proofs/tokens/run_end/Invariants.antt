-- `measures::tokens::run_end` meets its contract. The loop's invariant: the first n measures from `at` on are of the class.
-- Assumes nothing.
use Rattle.std.proofs.Common.{◌≡◌, ◌+◌, drop}
use Rattle.rules.specs.Chart.{classes}
use Rattle.rules.specs.Slices.{leading}
use Rattle.measures.proofs.tokens.run_end.Given as goal

abbrev pub invariant-loop-n : goal.invariant-loop-n
invariant-loop-n l = l.at + leading l.class (classes (drop l.at l.m)) ≡ (l.at + l.n) + leading l.class (classes (drop (l.at + l.n) l.m))
