-- Before mask row k the sums are those of column j, with k readings of the column that comes in
-- added and k of the one that goes out taken off.
use Rattle.level_sums.specs.Sums.{AtTicks}
use Rattle.level_sums.proofs.ColumnLaws.{column_run}
use Rattle.level_sums.proofs.row.Row.next_column.Given as goal

abbrev pub invariant-loop-k : goal.invariant-loop-k
invariant-loop-k l = let image = l.self.source.image in
    AtTicks image.shape.cycle (column_run image.shape image.readings.now l.self.i l.j l.k) l.sums
