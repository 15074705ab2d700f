-- Before mask row k the mask rows before it have the sums of row i and are weighed, and the others
-- still have those of the row above.
use Prim.Native.Nat.{◌+◌, ◌-◌}
use Rattle.lines.specs.Lines.{IsPaddedLine}
use Rattle.reading_sums.specs.Sums.{HoldsMaskSums}
use Rattle.reading.proofs.Carried.{MaskRows}
use Rattle.reading.proofs.rows.carry_rows.Given as goal

abbrev pub invariant-loop-k : goal.invariant-loop-k
invariant-loop-k l = let s = l.row.image.shape in let image = l.row.image.readings.now in
    record {
      done : MaskRows s image l.row.i l.k l.initial.work l.work l.memory.pairs.least
          l.memory.pairs.nearest;
      left : HoldsMaskSums s image (l.row.i - 1) l.work (l.row.i + l.k) (l.row.i + l.carried_rows);
      leaving : IsPaddedLine s image (l.row.i - 1) l.memory.row;
    }
