-- Before row i the rows before it stand in the output, and all mask rows of the row above it but
-- the first are kept, with their sums.
use Prim.Native.Nat.{◌-◌, ◌*◌, ◌<◌}
use Rattle.lists.proofs.Written.{Run}
use Rattle.shape.specs.Need.{reading_need}
use Rattle.sums.specs.Memory.{Outside}
use Rattle.window.specs.Phase.{phase_at}
use Rattle.reading.specs.Rows.{IsCarried}
use Rattle.reading.proofs.rows.each_row.Given as goal

abbrev pub invariant-loop-i : goal.invariant-loop-i
invariant-loop-i l = let s = l.image.shape in let image = l.image.readings.now in
    record {
      written : Run (phase_at s image) (l.first * s.columns) l.initial.output l.output
          (l.i * s.columns);
      carried_rows : l.first < l.i → IsCarried s image l.i (s.mask_rows - 1) l.work;
      outside : Outside l.initial.work l.work 0 (reading_need s);
    }
