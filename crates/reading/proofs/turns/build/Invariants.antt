-- Planes that are built begin at the marks of their readings. Before turn l of the sweep behind the
-- planes before plane l have their sums and are weighed.
use Prim.Native.Nat.{◌+◌}
use Rattle.reading_sums.specs.Planes.{of_rows, no_gain}
use Rattle.reading.specs.RowWeighed.{IsRowWeighed}
use Rattle.reading.proofs.Sweeping.{Sweeping}
use Rattle.reading.proofs.turns.build.Given as goal

abbrev pub invariant-loop-l : goal.invariant-loop-l
invariant-loop-l l =
    let r = l.mask_row.row in
    let s = r.image.shape in
    let image = r.image.readings.now in
    record {
      sweeping : Sweeping s image r.i (r.i + l.mask_row.k)
          (of_rows s image r.i l.mask_row.own.now) no_gain l.planes l.changes l.l;
      weighed : IsRowWeighed s image r.i l.mask_row.k l.l l.pairs.least l.pairs.nearest;
    }
