-- Before a tick the first round of the table is filled up to it.
use Rattle.level_sums.proofs.TableLaws.{IsFilledTo}
use Rattle.level_sums.proofs.table.distances.Given as goal

abbrev pub invariant-loop-tick : goal.invariant-loop-tick
invariant-loop-tick l = IsFilledTo l.cycle l.table l.tick
