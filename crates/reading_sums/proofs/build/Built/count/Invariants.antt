-- Before each pair of rows the rows before it are counted; the last row, which the loop leaves
-- over, is `last`.
use Prim.Native.Nat.{◌*◌}
use Rattle.reading_sums.proofs.Turns.{Rows}
use Rattle.reading_sums.proofs.build.Built.count.Given as goal

abbrev pub invariant-loop-pair : goal.invariant-loop-pair
invariant-loop-pair l = Rows l.image.shape l.image.readings.now l.i l.own l.start l.at
    (2 * l.pair) l.initial.changes l.changes
