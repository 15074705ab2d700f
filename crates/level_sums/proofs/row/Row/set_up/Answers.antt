-- The sums of the column before are copied, and moved on by a column.
use Prim.Native.Nat.{◌+◌, ◌-◌}
use mathlib.Core.Path.{◌≡◌, refl}
use native.Mathlib.Omega.{arith}
use lib.ListN.{length-take, length-drop}
use Rattle.lists.proofs.Parts.{part_end}
use Rattle.level_sums.proofs.RowSums.{before_ends, column_changed, column_outside}
use Rattle.level_sums.proofs.RowSums.{column_reads, row_more}
use Rattle.level_sums.proofs.row.Row.set_up.Goals as goal

pub copy-requires : goal.copy-requires
copy-requires c =
    let source = c.args.self.now.source in
    let room = part_end c.args.j source.image.shape.columns source.image.shape.cycle
    c.requires.image_column in
    let ends = before_ends c.args.j source.image.shape.cycle c.if-j-eq0.false in
    simp (length-take, length-drop) (omega (arith, room, ends))

pub next_column-requires-clause-column : goal.next_column-requires-clause-column
next_column-requires-clause-column c =
    let row = c.args.self.now in
    let source = row.source in
    let room = part_end c.args.j source.image.shape.columns source.image.shape.cycle
    c.requires.image_column in
    let ends = before_ends c.args.j source.image.shape.cycle c.if-j-eq0.false in
    rw (c.copy.ensures.after, c.split_at_mut-before.ensures.front)
    (column_reads source.image row.i (c.args.j - 1) c.args.sums.now c.requires.before (omega arith)
    (omega (arith, c.if-j-eq0.false)) (omega (arith, ends))
    (omega (arith, room)) (simp length-take (omega (arith, room, ends))))

pub returns : goal.returns
returns c =
    let row = c.args.self.now in
    let source = row.source in
    let j = c.args.j in
    let e : j - 1 + 1 ≡ j = omega (arith, c.if-j-eq0.false) in
    let room = part_end j source.image.shape.columns source.image.shape.cycle
    c.requires.image_column in
    let column = column_changed source.image row.i j {w = c.args.sums.now}
    (omega (arith, c.requires.room, room)) refl (rw e at c.next_column.ensures) in
    rw (c.split_at_mut-before.ensures.front, c.split_at_mut-before.ensures.back) (record {
      sums = row_more source.image row.i j c.requires.before column;
      others = column_outside source.image row.i j column;
    })
