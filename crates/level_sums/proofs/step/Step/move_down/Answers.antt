-- Column 0 starts the row, and each other column follows from the one before it.
use Prim.Native.Nat.{◌+◌, ◌-◌}
use mathlib.Core.Path.{◌≡◌}
use native.Mathlib.Omega.{arith}
use Rattle.lists.proofs.Parts.{part_end}
use Rattle.level_sums.proofs.RowSums.{column_changed, descended}
use Rattle.level_sums.proofs.step.Step.move_down.Goals as goal

pub returns-else-j-eq0-clause-after : goal.returns-else-j-eq0-clause-after
returns-else-j-eq0-clause-after c =
    let step = c.args.self.now in
    let image = step.source.image in
    let j = c.args.j in
    let e : j - 1 + 1 ≡ j = omega (arith, c.if-j-eq0.false) in
    descended image step.i j c.requires.before
    (column_changed image (step.i + 1) j
    (omega (
      arith,
      c.requires.before.room,
      part_end j image.shape.columns image.shape.cycle c.requires.image_column,
    )) (omega arith)
    (rw e at c.advance.ensures.column)) (rw e at c.advance.ensures.differences)
