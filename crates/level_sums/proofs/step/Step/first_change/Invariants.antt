-- Before mask column l the differences are those of the first l readings of the row that comes in
-- below and of the one that goes out above.
use Rattle.level_sums.specs.Sums.{AtTicks}
use Rattle.level_sums.proofs.ColumnLaws.{change_run}
use Rattle.level_sums.proofs.step.Step.first_change.Given as goal

abbrev pub invariant-loop-l : goal.invariant-loop-l
invariant-loop-l l = let image = l.self.source.image in
    AtTicks image.shape.cycle (change_run image.shape image.readings.now l.self.i l.l) l.change
