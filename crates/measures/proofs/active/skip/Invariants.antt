-- `measures::active::skip` meets its contract: stretches within bounds join.
-- Assumes nothing.
use Rattle.std.proofs.Common.{◌≡◌, drop}
use Rattle.std.specs.Slice.Iter.{chunks_exact_rest, chunks_exact_size}
use Rattle.measures.specs.Active.{Stretch}
use Rattle.measures.proofs.active.skip.Given as goal

abbrev pub invariant-loop-block : goal.invariant-loop-block
invariant-loop-block l =
    Stretch l.m l.from l.lo l.more l.i × (chunks_exact_size l.block-iterator ≡ 8) × (drop l.i l.m ≡ chunks_exact_rest l.block-iterator)
