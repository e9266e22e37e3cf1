-- `sn_text::sn::add_token` meets its contract.
-- Assumes nothing.
use mathlib.Core.List.{◌++◌, [], ◌∷◌}
use native.Mathlib.Omega.{arith}
use Rattle.number.specs.Digits.{digits}
use Rattle.number.proofs.Digits.{at_most}
use Rattle.number.specs.Grown.{Grown}
use Rattle.text_buffer.specs.Words.{side}
use Rattle.text_buffer.proofs.Bytes.{side-short}
use Rattle.number.proofs.Grown.{grown, dropped}
use Rattle.number.proofs.Word.{worded}
use Rattle.sn_text.proofs.SnParts.{token-text, token-none}
use Rattle.sn_text.proofs.sn.add_token.Goals as goal
use Rattle.sn_text.proofs.sn.add_token.Goals.{After-add_word-c}

pub add_word-c-requires : goal.add_word-c-requires
add_word-c-requires c =
    let a = worded c.before_word.ensures c.add_word-a.ensures in
    (omega (arith, a.next, side-short 40 c.args.class, at_most 20 c.args.n (omega arith) (omega arith)), c.after_word.ensures.short)

-- all of the token
whole : (c : After-add_word-c) → let a = c.args in
    Grown a.buf.now c.add_word-c.new.buf a.k (side 40 a.class ++ (digits a.n ++ (side 41 a.class ++ (32 ∷ [])))) c.add_word-c.result
whole c = grown _ _ (worded c.before_word.ensures c.add_word-a.ensures) (grown _ _ c.add_u64-b.ensures (worded c.after_word.ensures c.add_word-c.ensures))

pub returns-then-class-n : goal.returns-then-class-n
returns-then-class-n c = rw (token-none c.args.class c.args.n c.if-class-n.true) (dropped _ (omega arith) (whole (goal.at.returns-then-class-n c).After-add_word-c))

pub returns-else-class-n : goal.returns-else-class-n
returns-else-class-n c = rw (token-text c.args.class c.args.n c.if-class-n.false) (whole (goal.at.returns-else-class-n c).After-add_word-c)
