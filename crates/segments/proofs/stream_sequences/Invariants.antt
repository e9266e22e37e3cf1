-- `segments::stream_sequences` meets its contract. The loop's invariant: the first i segments are written, and the iterator has the others left.
-- Assumes nothing.
use Rattle.segments.specs.Steps.{segments_from}
use Rattle.segments.proofs.Written.{Writing}
use Rattle.segments.proofs.stream_sequences.Given as goal

abbrev pub invariant-loop-i : goal.invariant-loop-i
invariant-loop-i l = Writing l.fn.measures l.fn.out l.out l.i (segments_from l.segments.measures.now l.segments.at)
