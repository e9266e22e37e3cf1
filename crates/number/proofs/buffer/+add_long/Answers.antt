-- `number::buffer::add_long` meets its contract: it calls itself with a smaller number.
-- Assumes nothing.
use Rattle.std.proofs.Common.{arith}
use Rattle.number.proofs.Digits.{digits-one, length_some}
use Rattle.number.proofs.Grown.{stored, front-room, last-place, last-digit}
use Rattle.number.proofs.buffer.+add_long.Goals as goal

pub bounds-buf-k : goal.bounds-buf-k
bounds-buf-k t c = omega (arith, c.requires.fits, length_some c.args.n)

pub returns-then-n-lt10 : goal.returns-then-n-lt10
returns-then-n-lt10 t c = rw (digits-one c.args.n c.if-n-lt10.true) (stored _ (omega (arith, c.requires.fits, length_some c.args.n)))

pub add_long-last-requires : goal.add_long-last-requires
add_long-last-requires t c = (omega arith, front-room c.args.n (omega arith) c.requires)

pub bounds-buf-last : goal.bounds-buf-last
bounds-buf-last t c = last-place c.args.n (omega arith) c.requires c.add_long-last.ensures

pub returns : goal.returns
returns t c = last-digit c.args.n (omega arith) c.requires c.add_long-last.ensures
