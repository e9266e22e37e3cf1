-- `text_buffer::run::add_ended` meets its contract.
-- Assumes nothing.
use native.Mathlib.Omega.{arith}
use Rattle.number.proofs.Digits.{at_most}
use Rattle.rules.specs.Texts.{mark}
use Rattle.number.specs.Grown.{Grown}
use Rattle.number.proofs.Grown.{grown}
use Rattle.number.proofs.Word.{worded}
use Rattle.text_buffer.proofs.Bytes.{mark-short, ended-run}
use Rattle.text_buffer.proofs.run.add_ended.Goals as goal
use Rattle.text_buffer.proofs.run.add_ended.Goals.{After-add_word-a}

marked : (c : After-add_word-a) → Grown c.args.buf.now c.add_word-a.new.buf c.args.k (mark c.args.run.class) c.add_word-a.result
marked c = worded c.mark_word.ensures c.add_word-a.ensures

pub add_word-requires : goal.add_word-requires
add_word-requires c =
    let a = marked (goal.at.add_word-requires c).After-add_word-a in (
      omega (arith, a.next, mark-short c.args.run.class, at_most 20 c.args.run.length (omega arith) (omega arith)),
      c.end_word.ensures.short,
    )

pub returns : goal.returns
returns c =
    let r = c.args.run in
    rw (ended-run r.class r.length r.starred)
    at (grown _ _ (marked (goal.at.returns c).After-add_word-a) (grown _ _ c.add_u64-b.ensures (worded c.end_word.ensures c.add_word.ensures)))
