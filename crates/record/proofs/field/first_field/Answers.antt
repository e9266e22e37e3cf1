-- `record::field::first_field` meets its contract.
-- Assumes nothing.
use Rattle.record.proofs.Fields.{headless, short, found, sizes, places}
use Rattle.record.proofs.field.first_field.Goals as goal

pub returns-in_default : goal.returns-in_default
returns-in_default c = headless _ c.requires c.in_default.len_below

pub returns-in_default-split_at_checked : goal.returns-in_default-split_at_checked
returns-in_default-split_at_checked c =
    short _ c.in-len3-up.len_at_least _ c.from_be_bytes-length.ensures c.in_default-split_at_checked.ensures.cases

pub returns : goal.returns
returns c =
    let h = c.in-len3-up.len_at_least in
    let s = c.in-Some.ensures.cases in
    record {
      fields = rw (s.1, s.2) (found _ h _ c.from_be_bytes-length.ensures s.0);
      sizes = rw (s.1, s.2) (sizes _ h _ c.from_be_bytes-length.ensures s.0);
      places = rw (s.1, s.2) (places _ h _ c.from_be_bytes-length.ensures);
    }
