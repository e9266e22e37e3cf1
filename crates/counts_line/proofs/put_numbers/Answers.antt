-- `counts_line::put_numbers` meets its contract.
-- Assumes nothing.
use Rattle.counts_line.proofs.Numbers.{next-room, put_next, put_first, put_all}
use Rattle.counts_line.proofs.put_numbers.Goals as goal

pub loop-n-init : goal.loop-n-init
loop-n-init c = put_first _ _ c.in-len1-up.len_at_least c.requires.1 c.put_u64-place.ensures

pub put_spaced-place-requires : goal.put_spaced-place-requires
put_spaced-place-requires c =
    (c.requires.0, next-room c.loop-n.invariant c.loop-n-test.true)

pub loop-n-preserved : goal.loop-n-preserved
loop-n-preserved c =
    put_next c.loop-n.invariant c.loop-n-test.true c.put_spaced-place.ensures

pub returns : goal.returns
returns c =
    put_all _ _ c.in-len1-up.len_at_least c.requires.1 c.put_u64-place.ensures c.loop-n.invariant c.loop-n-test.false
