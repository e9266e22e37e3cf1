-- `sn_to_standard::copy::copied_length` meets its contract.
-- Assumes nothing.
use Rattle.std.proofs.Common.{◌≡◌, ◌∙◌, ℕ, ◌+◌, List, ap, sym, leb, length, length-take, take, get_or, arith}
use borrow.Author.Tests.{leb-true, leb-false, lt-ltb, le-ltb}
use lib.Seq.{take_all}
use Rattle.number.proofs.Split.{split}
use Rattle.sn_to_standard.specs.Copied.{kept_byte, kept}
use Rattle.sn_to_standard.proofs.Blocks.{kept-most, kept-shown, count-more}
use Rattle.sn_to_standard.proofs.copy.copied_length.Goals as goal
use Rattle.sn_to_standard.proofs.copy.copied_length.Goals.{After-from-n}

-- one more, or none
counted : (c : After-from-n) → c.from-n.result ≡ length (kept_byte (get_or c.args.text.now c.loop-b.b-index 0))
counted c =
    let b = get_or c.args.text.now c.loop-b.b-index 0 in
    split (leb b 57)
    (λ e. rw (c.from-n.ensures, e, le-ltb 57 b (leb-true b 57 e)))
    (λ e. rw (c.from-n.ensures, e, lt-ltb 57 b (leb-false b 57 e)))

pub overflow_add-n : goal.overflow_add-n
overflow_add-n c =
    let l = c.loop-b in
    let text = c.args.text.now in
    let m = count-more text l.b-index c.loop-b-test.true in
    let e = counted (goal.at.overflow_add-n c).After-from-n in
    omega (arith, kept-most (take (l.b-index + 1) text), length-take (l.b-index + 1) text, c.requires)

pub loop-b-preserved : goal.loop-b-preserved
loop-b-preserved c =
    let m = count-more c.args.text.now c.loop-b.b-index c.loop-b-test.true in
    omega (arith, counted (goal.at.loop-b-preserved c).After-from-n)

pub returns : goal.returns
returns c =
    let text = c.args.text.now in
    c.loop-b.invariant ∙ ap (λ (l : List ℕ). length (kept l)) (take_all c.loop-b.b-index text c.loop-b-test.false) ∙ sym (kept-shown 41 text)
