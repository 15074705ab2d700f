use mathlib.Core.Path.{◌≡◌}
use native.Mathlib.Omega.{arith}
use Rattle.refusal.specs.Limits.{level_cycle}
use Rattle.shape.proofs.Accepted.{shape_clear}
use Rattle.level_sums.proofs.Running.{ticks_zero, ticks_are}
use Rattle.level_sums.proofs.ColumnLaws.{block_none, block_all}
use Rattle.level_sums.proofs.row.Row.first_column.Goals as goal

pub loop-k-init : goal.loop-k-init
loop-k-init c =
    let row = c.args.self.now in
    let image = row.source.image in
    ticks_zero (c.fill.ensures.after (λ y e. e)) c.requires
    (block_none image.shape image.readings.now row.i)

pub returns : goal.returns
returns c =
    let row = c.args.self.now in
    let image = row.source.image in
    let e : c.loop-k.k ≡ image.shape.mask_rows = omega arith in
    ticks_are (rw e at c.loop-k.invariant)
    (λ q h. block_all image.shape image.readings.now row.source.ready row.i q row.inside
    (shape_clear level_cycle image.shape row.source.ready.shape).columns_some h)
