-- Before column j the columns before it have moved down, and the output has their phases.
use Prim.Native.Nat.{◌+◌}
use Rattle.sums.specs.Memory.{IsBegun}
use Rattle.window.specs.Phase.{phase}
use Rattle.level_sums.specs.Sums.{IsDescending}
use Rattle.level.proofs.rows.next_row.Given as goal

abbrev pub invariant-loop-j : goal.invariant-loop-j
invariant-loop-j l = let step = l.step in let image = step.source.image in
    record {
      down : IsDescending image step.i l.j l.sums l.change;
      phases : IsBegun l.initial.out l.out l.j
          (phase image.shape image.readings.now (step.i + 1));
    }
