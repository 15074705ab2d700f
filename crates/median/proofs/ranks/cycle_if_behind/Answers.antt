-- The two cases: q is at or after a, or before it.
use Rattle.std.proofs.Common.{le-leb}
use borrow.Author.Tests.{lt-leb}
use Rattle.median.proofs.ranks.cycle_if_behind.Goals as goal

pub returns-then-a-q : goal.returns-then-a-q
returns-then-a-q c = rw (le-leb _ _ c.if-a-q.true)

pub returns-else-a-q : goal.returns-else-a-q
returns-else-a-q c = rw (lt-leb _ _ c.if-a-q.false)
