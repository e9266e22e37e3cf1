-- `sn_text::three::joined_turn` meets its contract.
-- Assumes nothing.
use mathlib.Core.Path.{sym, ◌∙◌}
use Rattle.sn_text.proofs.SnThree.{turned_apart, turned-joins}
use Rattle.sn_text.proofs.three.joined_turn.Goals as goal

pub returns-then-next-join_class : goal.returns-then-next-join_class
returns-then-next-join_class c =
    let e = c.if-next-join_class.true ∙ c.join_class.ensures in
    turned-joins c.args.limit c.args.last c.args.gap c.args.next c.requires.2 c.requires.4 e

pub returns : goal.returns
returns c =
    let j = c.join_class.ensures in
    turned_apart c.args.limit c.args.last c.args.gap c.args.next c.requires.2 c.requires.4
    (λ e. c.if-next-join_class.false (e ∙ sym j)) c.add_group.ensures
