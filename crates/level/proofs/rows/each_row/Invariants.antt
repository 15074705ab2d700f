-- Before row i the rows before it stand in the output, and the memory has the sums of the row above
-- it.
use Prim.Native.Nat.{◌-◌, ◌*◌, ◌<◌}
use Rattle.lists.proofs.Written.{Run}
use Rattle.window.specs.Phase.{phase_at}
use Rattle.level_sums.specs.Sums.{HoldsRowSums}
use Rattle.level.proofs.rows.each_row.Given as goal

abbrev pub invariant-loop-i : goal.invariant-loop-i
invariant-loop-i l = let image = l.source.image in let columns = image.shape.columns in
    record {
      written : Run (phase_at image.shape image.readings.now)
          (l.first * columns) l.initial.output l.output (l.i * columns);
      above : l.first < l.i → HoldsRowSums image (l.i - 1) l.sums 0 columns;
    }
