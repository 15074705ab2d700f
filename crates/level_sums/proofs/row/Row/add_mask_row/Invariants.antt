-- Before mask column l the sums are those of k mask rows and of l readings of the next.
use Rattle.lists.specs.Difference.{difference}
use Rattle.level_sums.specs.Sums.{AtTicks}
use Rattle.level_sums.proofs.ColumnLaws.{part_sum}
use Rattle.level_sums.proofs.row.Row.add_mask_row.Given as goal

abbrev pub invariant-loop-l : goal.invariant-loop-l
invariant-loop-l l = let image = l.self.source.image in
    AtTicks image.shape.cycle
    (λ q. difference (part_sum image.shape image.readings.now l.self.i l.k l.l q) 0) l.sums
