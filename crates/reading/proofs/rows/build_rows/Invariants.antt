-- Before mask row k the mask rows before it have the sums of row i and are weighed.
use Rattle.reading.proofs.Carried.{MaskRows}
use Rattle.reading.proofs.rows.build_rows.Given as goal

abbrev pub invariant-loop-k : goal.invariant-loop-k
invariant-loop-k l = let s = l.row.image.shape in let image = l.row.image.readings.now in
    MaskRows s image l.row.i l.k l.initial.work l.work l.memory.pairs.least l.memory.pairs.nearest
