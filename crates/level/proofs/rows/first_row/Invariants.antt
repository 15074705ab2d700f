-- Before column j the memory has the sums of the columns before it, and the output their phases.
use Prim.Native.Nat.{◌*◌}
use mathlib.Core.Path.{◌≡◌}
use lib.ListN.{length}
use Rattle.sums.specs.Memory.{IsBegun}
use Rattle.window.specs.Phase.{phase}
use Rattle.level_sums.specs.Sums.{HoldsRowSums}
use Rattle.level.proofs.rows.first_row.Given as goal

abbrev pub invariant-loop-j : goal.invariant-loop-j
invariant-loop-j l = let image = l.row.source.image in
    record {
      room : length l.sums ≡ image.shape.columns * image.shape.cycle;
      sums : HoldsRowSums image l.row.i l.sums 0 l.j;
      phases : IsBegun l.initial.out l.out l.j (phase image.shape image.readings.now l.row.i);
    }
