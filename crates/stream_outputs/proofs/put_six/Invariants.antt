-- `stream_outputs::put_six` meets its contract: the texts before kind number i are added; the loop's steps are `Pass`'s.
-- Assumes nothing.
use Rattle.rules.specs.Slices.{paired}
use Rattle.stream_outputs.proofs.Pass.{Going}
use Rattle.stream_outputs.proofs.put_six.Given as goal

abbrev pub invariant-loop-i : goal.invariant-loop-i
invariant-loop-i l = Going (paired l.tokens.classes.now l.tokens.lengths.now) l.initial.buf l.initial.out l.i l.buf l.out l.lengths l.to
