-- The differences at column 0 are set up and added.
use Prim.Native.Nat.{◌+◌}
use Rattle.refusal.specs.Limits.{level_cycle}
use Rattle.shape.proofs.Accepted.{shape_clear}
use Rattle.level_sums.specs.Sums.{HoldsColumnSums}
use Rattle.level_sums.proofs.Down.{down_added, down_added_signed}
use Rattle.level_sums.proofs.Running.{ticks_lowest}
use Rattle.level_sums.proofs.step.Step.start_row.Goals as goal
use Rattle.level_sums.proofs.step.Step.start_row.Goals.{After-add_lowest}

-- with the differences added, the column has the sums of the next row
column : (c : After-add_lowest) → let step = c.args.self.now in
    HoldsColumnSums step.source.image (step.i + 1) 0 c.add_lowest.new.sums
column c =
    let step = c.args.self.now in
    let source = step.source in
    down_added source.image source.ready step.i 0 step.next
    (shape_clear level_cycle source.image.shape source.ready.shape).columns_some
    c.requires.column
    c.first_change.ensures c.add_lowest.ensures.sums c.add_lowest.auto.sums

pub add_lowest-requires-clause-signed : goal.add_lowest-requires-clause-signed
add_lowest-requires-clause-signed c =
    let step = c.args.self.now in
    let source = step.source in
    down_added_signed source.image source.ready step.i 0 step.next
    (shape_clear level_cycle source.image.shape source.ready.shape).columns_some
    c.requires.column c.first_change.ensures

pub returns-clause-column : goal.returns-clause-column
returns-clause-column c = column (goal.at.returns-clause-column c).After-add_lowest

pub returns-clause-lowest : goal.returns-clause-lowest
returns-clause-lowest c = ticks_lowest (column (goal.at.returns-clause-lowest c).After-add_lowest)
    c.add_lowest.ensures.lowest c.requires.column.len
