-- The four readings at the corners of the two windows come in and go out: the differences move on
-- by a column, and the sums down by a row.
use Prim.Native.Nat.{◌+◌}
use Rattle.level_sums.specs.Sums.{HoldsColumnSums}
use Rattle.level_sums.proofs.Down.{down_turn_signed, down_differences, down_sums}
use Rattle.level_sums.proofs.Running.{ticks_lowest}
use Rattle.level_sums.proofs.step.Step.advance.Goals as goal
use Rattle.level_sums.proofs.step.Step.advance.Goals.{After-move_sums}

-- with the differences moved on and added, the column has the sums of the next row
column : (c : After-move_sums) → let step = c.args.self.now in
    HoldsColumnSums step.source.image (step.i + 1) (c.args.j + 1) c.move_sums.new.sums
column c =
    let step = c.args.self.now in
    let source = step.source in
    down_sums source.image source.ready step.i c.args.j step.next c.requires.next_column
    c.requires.column c.requires.differences
    c.part_at-first_in.ensures c.part_at-second_in.ensures c.part_at-first_out.ensures
    c.part_at-second_out.ensures c.move_sums.ensures.sums c.move_sums.auto.sums

pub move_sums-requires-clause-signed : goal.move_sums-requires-clause-signed
move_sums-requires-clause-signed c =
    let step = c.args.self.now in
    let source = step.source in
    down_turn_signed source.image source.ready step.i c.args.j step.next c.requires.next_column
    c.requires.column c.requires.differences
    c.part_at-first_in.ensures c.part_at-second_in.ensures c.part_at-first_out.ensures
    c.part_at-second_out.ensures

pub returns-clause-differences : goal.returns-clause-differences
returns-clause-differences c =
    let step = c.args.self.now in
    let source = step.source in
    down_differences source.image source.ready step.i c.args.j step.next c.requires.next_column
    c.requires.column c.requires.differences
    c.part_at-first_in.ensures c.part_at-second_in.ensures c.part_at-first_out.ensures
    c.part_at-second_out.ensures c.move_sums.ensures.differences c.move_sums.auto.change

pub returns-clause-column : goal.returns-clause-column
returns-clause-column c = column (goal.at.returns-clause-column c).After-move_sums

pub returns-clause-lowest : goal.returns-clause-lowest
returns-clause-lowest c = ticks_lowest (column (goal.at.returns-clause-lowest c).After-move_sums)
    c.move_sums.ensures.lowest c.requires.column.len
