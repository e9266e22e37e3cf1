-- `sn_text::three::adjacent_turn` meets its contract.
-- Assumes nothing.
use mathlib.Core.Path.{refl}
use Rattle.sn_text.proofs.SnParts.{adjacent-text}
use Rattle.sn_text.proofs.SnThree.{turned_apart}
use Rattle.sn_text.proofs.three.adjacent_turn.Goals as goal

pub returns : goal.returns
returns c limit =
    let t = c.args.last in
    turned_apart limit t 0 c.args.next c.requires.1 c.requires.3 c.requires.3
    (rw (adjacent-text limit t.class t.length t.starred 0 c.requires.1 refl) at c.add_ended.ensures)
