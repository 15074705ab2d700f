-- Before mask row k the sums are those of the mask rows before it.
use Rattle.level_sums.specs.Sums.{HoldsBlockSums}
use Rattle.level_sums.proofs.row.Row.first_column.Given as goal

abbrev pub invariant-loop-k : goal.invariant-loop-k
invariant-loop-k l = HoldsBlockSums l.self.source.image l.self.i l.k l.sums
