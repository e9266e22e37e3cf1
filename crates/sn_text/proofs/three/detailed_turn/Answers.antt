-- `sn_text::three::detailed_turn` meets its contract.
-- Assumes nothing.
use native.Mathlib.Omega.{arith}
use Rattle.number.proofs.Grown.{grown}
use Rattle.sn_text.proofs.SnParts.{ended-most}
use Rattle.sn_text.proofs.SnThree.{none-joins, behind-text, turned_apart}
use Rattle.sn_text.proofs.three.detailed_turn.Goals as goal

pub add_token-requires : goal.add_token-requires
add_token-requires c = (omega (arith, ended-most c.args.last (omega arith) c.add_ended-place.ensures), omega arith)

pub returns : goal.returns
returns c =
    let t = c.args.last in
    turned_apart 0 t c.args.gap c.args.next c.requires.2 c.requires.4 (none-joins t.class c.args.gap c.requires.4)
    (rw (behind-text t.class t.length t.starred c.args.gap c.requires.2 c.requires.1) at
    (grown _ _ c.add_ended-place.ensures c.add_token.ensures))
