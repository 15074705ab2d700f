use Prim.Native.Nat.{◌+◌, ◌-◌, ◌*◌}
use mathlib.Core.Path.{◌∙◌}
use lib.ListN.{take, drop}
use native.Mathlib.Omega.{arith}
use Rattle.lists.proofs.Parts.{part_end}
use Rattle.sums.proofs.Memory.{begun_more}
use Rattle.level_sums.specs.Sums.{HoldsColumnSums}
use Rattle.level_sums.proofs.RowSums.{column_lent}
use Rattle.level.proofs.RowLaws.{choosable, chosen, row_all}
use Rattle.level.proofs.rows.first_row.Goals as goal
use Rattle.level.proofs.rows.first_row.Goals.{After-set_up}

-- column j as it is lent has its sums
column : (c : After-set_up) → let row = c.args.row.now in let image = row.source.image in let j =
    c.loop-j.j in
    HoldsColumnSums image row.i j (take ((j + 1) * image.shape.cycle - j * image.shape.cycle)
    (drop (j * image.shape.cycle) c.set_up.new.sums))
column c =
    let row = c.args.row.now in
    let source = row.source in
    column_lent source.image row.i c.loop-j.j c.set_up.new.sums c.set_up.ensures.sums (omega arith)
    (omega arith)
    (omega (
      arith,
      c.set_up.auto.sums,
      c.loop-j.invariant.room,
      part_end c.loop-j.j source.image.shape.columns source.image.shape.cycle
          (omega (arith, c.requires.width)),
    )) (omega arith)

pub phase_by_sums-requires : goal.phase_by_sums-requires
phase_by_sums-requires c =
    let row = c.args.row.now in
    let source = row.source in
    choosable source.image source.ready row.inside (omega (arith, c.requires.width))
    (c.centres.ensures.holds c.loop-j.j (omega (arith, c.requires.width)))
    (column (goal.at.phase_by_sums-requires c).After-set_up)

pub loop-j-preserved : goal.loop-j-preserved
loop-j-preserved c =
    let row = c.args.row.now in
    let source = row.source in
    record {
      room = c.set_up.auto.sums ∙ c.loop-j.invariant.room;
      sums = c.set_up.ensures.sums;
      phases = begun_more c.loop-j.invariant.phases _ (omega arith)
          (chosen source.image source.ready row.inside (omega (arith, c.requires.width))
          (c.centres.ensures.holds c.loop-j.j (omega (arith, c.requires.width)))
          (column (goal.at.loop-j-preserved c).After-set_up) _ c.phase_by_sums.ensures);
    }

pub returns-clause-phases : goal.returns-clause-phases
returns-clause-phases c = let row = c.args.row.now in
    row_all row.source.image row.i c.loop-j.invariant.phases c.requires.width
    (omega (arith, c.requires.width))
