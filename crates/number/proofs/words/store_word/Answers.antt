-- `number::words::store_word` meets its contract.
-- Assumes nothing.
use Rattle.std.proofs.Common.{◌≡◌, ◌/◌, ◌%◌, ◌+◌, ◌-◌, ◌∙◌, arith}
use Rattle.number.specs.Word.{word_bytes}
use Rattle.number.proofs.Place.{put-part}
use Rattle.number.proofs.words.store_word.Goals as goal

pub returns : goal.returns
returns c =
    let w = c.args.w in
    let last : w / 16777216 % 256 ≡ w / 16777216 = omega arith in
    let bytes : c.copy_from_slice.new.self ≡ word_bytes w = c.copy_from_slice.ensures.after ∙ c.to_le_bytes.ensures ∙ rw last in
    rw bytes (put-part c.args.buf.now (word_bytes w) c.args.k (c.args.k + 4 - c.args.k) (omega arith) (omega (arith, c.requires)))
