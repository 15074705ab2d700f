use Prim.Native.Nat.{◌+◌, ◌-◌, ◌*◌}
use lib.ListN.{take, drop}
use native.Mathlib.Omega.{arith}
use Rattle.lists.proofs.Parts.{part_end}
use Rattle.sums.proofs.Memory.{begun_more}
use Rattle.level_sums.specs.Sums.{HoldsColumnSums}
use Rattle.level_sums.proofs.RowSums.{column_lent}
use Rattle.level_sums.proofs.Running.{ticks_least}
use Rattle.level.proofs.RowLaws.{choosable, chosen, row_all}
use Rattle.level.proofs.rows.next_row.Goals as goal
use Rattle.level.proofs.rows.next_row.Goals.{After-move_down-least}

-- column j as it is lent has its sums
column : (c : After-move_down-least) → let step = c.args.step.now in let image =
    step.source.image in let j = c.loop-j.j in
    HoldsColumnSums image (step.i + 1) j (take ((j + 1) * image.shape.cycle - j * image.shape.cycle)
    (drop (j * image.shape.cycle) c.move_down-least.new.sums))
column c =
    let step = c.args.step.now in
    let source = step.source in
    let after = c.move_down-least.ensures.after in
    column_lent source.image (step.i + 1) c.loop-j.j c.move_down-least.new.sums after.done
    (omega arith) (omega arith)
    (omega (
      arith,
      after.room,
      part_end c.loop-j.j source.image.shape.columns
          source.image.shape.cycle (omega (arith, c.requires.width)),
    )) (omega arith)

pub phase_by_lowest-requires-clause-choosable : goal.phase_by_lowest-requires-clause-choosable
phase_by_lowest-requires-clause-choosable c =
    let step = c.args.step.now in
    let source = step.source in
    choosable source.image source.ready step.next (omega (arith, c.requires.width))
    (c.centres.ensures.holds c.loop-j.j (omega (arith, c.requires.width)))
    (column (goal.at.phase_by_lowest-requires-clause-choosable c).After-move_down-least)

pub phase_by_lowest-requires-clause-lowest : goal.phase_by_lowest-requires-clause-lowest
phase_by_lowest-requires-clause-lowest c =
    ticks_least (column (goal.at.phase_by_lowest-requires-clause-lowest c).After-move_down-least)
    c.move_down-least.ensures.lowest

pub loop-j-preserved : goal.loop-j-preserved
loop-j-preserved c =
    let step = c.args.step.now in
    let source = step.source in
    record {
      down = c.move_down-least.ensures.after;
      phases = begun_more c.loop-j.invariant.phases _ (omega arith)
          (chosen source.image source.ready step.next (omega (arith, c.requires.width))
          (c.centres.ensures.holds c.loop-j.j (omega (arith, c.requires.width)))
          (column (goal.at.loop-j-preserved c).After-move_down-least) _ c.phase_by_lowest.ensures);
    }

pub returns-clause-phases : goal.returns-clause-phases
returns-clause-phases c =
    let step = c.args.step.now in
    row_all step.source.image (step.i + 1) c.loop-j.invariant.phases c.requires.width
    (omega (arith, c.requires.width))
