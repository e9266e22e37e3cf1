-- `scan::tokens_into` meets its contract: by the laws of `Front`, over what `runs_into` left.
-- Assumes nothing.
use borrow.Author.Rules.{rules}
use Rattle.scan.proofs.Front.{some, kept, held, fewer}
use Rattle.scan.proofs.tokens_into.Goals as goal

pub overflow_sub-last : goal.overflow_sub-last
overflow_sub-last c =
    some c.requires c.runs_into-all.ensures (search rules) (search rules)

pub returns-then-cs-last-ne0 : goal.returns-then-cs-last-ne0
returns-then-cs-last-ne0 c =
    kept c.requires c.runs_into-all.ensures (search rules) (search rules) c.if-cs-last-ne0.true

pub overflow_sub-result : goal.overflow_sub-result
overflow_sub-result c =
    held c.requires c.runs_into-all.ensures (search rules) (search rules) c.if-cs-last-ne0.false

pub returns : goal.returns
returns c =
    fewer c.requires c.runs_into-all.ensures (search rules) (search rules) c.if-cs-last-ne0.false
