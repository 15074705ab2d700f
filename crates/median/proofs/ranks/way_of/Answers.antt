-- The two cases: an even rank, an odd one.
use Rattle.std.proofs.Common.{eq-eqb, ne_eqb}
use Rattle.median.proofs.ranks.way_of.Goals as goal

pub returns-then-rank-eq0 : goal.returns-then-rank-eq0
returns-then-rank-eq0 c = rw (eq-eqb _ _ c.if-rank-eq0.true)

pub returns-else-rank-eq0 : goal.returns-else-rank-eq0
returns-else-rank-eq0 c = rw (ne_eqb _ _ c.if-rank-eq0.false)
