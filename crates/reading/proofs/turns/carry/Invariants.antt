-- Planes that are carried begin at the sums of the row above. Before turn l of the sweep behind the
-- planes before plane l have their sums and are weighed.
use Prim.Native.Nat.{◌+◌}
use Rattle.reading_sums.specs.Passes.{of_line}
use Rattle.reading.specs.RowWeighed.{IsRowWeighed}
use Rattle.reading.proofs.Sweeping.{Sweeping}
use Rattle.reading.proofs.turns.carry.Given as goal

abbrev pub invariant-loop-l : goal.invariant-loop-l
invariant-loop-l l =
    let r = l.mask_row.row in
    let s = r.image.shape in
    let own = l.mask_row.own.now in
    record {
      sweeping : Sweeping s r.image.readings.now r.i (r.i + l.mask_row.k)
          (of_line s.cycle own r.last.now) (of_line s.cycle own l.sweep.leaving.now)
          l.planes l.changes l.l;
      weighed : IsRowWeighed s r.image.readings.now r.i l.mask_row.k l.l l.pairs.least
          l.pairs.nearest;
    }
