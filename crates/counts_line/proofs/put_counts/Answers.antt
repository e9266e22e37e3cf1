-- `counts_line::put_counts` meets its contract.
-- Assumes nothing.
use mathlib.Core.List.{[], ◌∷◌}
use Rattle.number.proofs.Place.{room-first, room_next, wrote}
use Rattle.rules.specs.Chart.{count_numbers}
use Rattle.counts_line.specs.CountsLine.{parted_by_spaces}
use Rattle.counts_line.proofs.put_counts.Goals as goal

pub put_numbers-end-requires : goal.put_numbers-end-requires
put_numbers-end-requires c =
    rw c.count_numbers-numbers.ensures
    (c.requires.0, room-first (parted_by_spaces c.args.width (count_numbers c.args.counts)) (10 ∷ []) c.requires.1)

pub put_bytes-requires : goal.put_bytes-requires
put_bytes-requires c =
    room_next _ (10 ∷ []) (rw c.count_numbers-numbers.ensures at c.put_numbers-end.ensures) c.requires.1

pub returns : goal.returns
returns c =
    wrote _ _ (rw c.count_numbers-numbers.ensures at c.put_numbers-end.ensures) c.put_bytes.ensures
