-- `sn_to_standard::copy::put_block` meets its contract.
-- Assumes nothing.
use mathlib.Core.Path.{◌≡◌, ap, ◌∙◌}
use lib.ListN.{take}
use Rattle.sn_to_standard.specs.Copied.{kept, shown_part}
use Rattle.sn_to_standard.proofs.copy.put_block.Goals as goal
use Rattle.sn_to_standard.proofs.copy.put_block.Goals.{After-add_block-k}

-- what stands in the buffer
front : (c : After-add_block-k) → take c.add_block-k.result c.add_block-k.new.buf ≡ kept (shown_part c.args.text.now c.args.i c.args.n)
front c = c.add_block-k.ensures.front ∙ ap kept c.fill_block.ensures

pub put_bytes-requires : goal.put_bytes-requires
put_bytes-requires c = rw (front (goal.at.put_bytes-requires c).After-add_block-k) c.requires.1

pub returns : goal.returns
returns c =
    rw (front (goal.at.returns c).After-add_block-k) at c.put_bytes.ensures
