-- `count_cases::main` lends its whole array. Its length is given by a law, since counting so many zeros would be too deep for the check.
-- Assumes nothing.
use Rattle.std.proofs.Common.{ℕ, sym}
use Rattle.std.proofs.lemmas.List.{length-replicate}
use Rattle.count_cases.proofs.main.Goals as goal

pub slice_bounds-print_list-end : goal.slice_bounds-print_list-end
slice_bounds-print_list-end c = sym (length-replicate {A = ℕ} 262144 0)
