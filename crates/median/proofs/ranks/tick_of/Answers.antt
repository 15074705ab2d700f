-- The tick lies less than two cycles on, so that one subtraction brings it into the cycle.
use Rattle.std.proofs.Common.{arith}
use Rattle.median.proofs.RankLaws.{way_fits, tick-low, tick_high}
use Rattle.median.proofs.ranks.tick_of.Goals as goal

pub overflow_add-tick : goal.overflow_add-tick
overflow_add-tick c = let a =
    c.args in omega (arith, way_fits a.cycle a.rank (omega arith), c.way_of.ensures)

pub returns-then-tick-cycle : goal.returns-then-tick-cycle
returns-then-tick-cycle c = tick-low _ _ _ c.way_of.ensures c.if-tick-cycle.true

pub returns-else-tick-cycle : goal.returns-else-tick-cycle
returns-else-tick-cycle c =
    let a = c.args in
    let e = c.way_of.ensures in
    tick_high _ _ _ e c.if-tick-cycle.false
    (omega (arith, e, way_fits a.cycle a.rank (omega arith)))
