-- `text_buffer::words::WordTable::new` meets its contract.
-- Assumes nothing.
use Rattle.rules.specs.Bytes.{bytes}
use Rattle.number.specs.Word.{Word}
use Rattle.number.proofs.Word.{word_on}
use Rattle.text_buffer.proofs.Table.{table-right}
use Rattle.text_buffer.proofs.words.WordTable.new.Goals as goal

pub invariant_of-result : goal.invariant_of-result
invariant_of-result c =
    let space : Word (bytes " ") c.word_before-space.result = c.word_before-space.ensures in
    let bar = word_on (bytes "|") space c.word_before-bar.ensures in
    let filled = table-right space (word_on (bytes "*") space c.word_before-star.ensures) (word_on (bytes "-") space c.word_before-dash.ensures)
    (word_on (bytes "/") space c.word_before-slash.ensures) bar c.word_before.ensures c.word_before-2.ensures
    (word_on (bytes " ") bar c.word_before-3.ensures) c.set_numbers.ensures c.set_row.ensures c.set_row-2.ensures c.set_row-3.ensures
    c.set_row-4.ensures c.set_row-5.ensures c.set_signs.ensures c.set_signs-2.ensures in
    record { filled = filled }
