use Prim.Native.Nat.{◌+◌}
use mathlib.Core.Path.{◌≡◌}
use native.Mathlib.Omega.{arith}
use Rattle.level_sums.proofs.Running.{run_swapped, ticks_are}
use Rattle.level_sums.proofs.ColumnLaws.{entering_sum, leaving_sum, entering_more, leaving_more}
use Rattle.level_sums.proofs.ColumnLaws.{column_none, column_all}
use Rattle.level_sums.proofs.row.Row.next_column.Goals as goal

pub loop-k-init : goal.loop-k-init
loop-k-init c =
    let row = c.args.self.now in
    let image = row.source.image in
    ticks_are c.requires.column
    (λ q h. column_none image.shape image.readings.now row.source.ready row.i c.args.j q row.inside
    (omega arith) h)

pub loop-k-preserved : goal.loop-k-preserved
loop-k-preserved c =
    let row = c.args.self.now in
    let image = row.source.image in
    let k = c.loop-k.k in
    let more = entering_sum image.shape image.readings.now row.i c.args.j in
    let less = leaving_sum image.shape image.readings.now row.i c.args.j in
    run_swapped (more k) (less k) (more (k + 1))
    (less (k + 1)) c.loop-k.invariant c.swap.auto.sums _ _ c.part_at-entering.ensures
    c.part_at-leaving.ensures c.swap.ensures
    (λ q h. entering_more image.shape image.readings.now row.i c.args.j k q)
    (λ q h. leaving_more image.shape image.readings.now row.i c.args.j k q)

pub returns : goal.returns
returns c =
    let row = c.args.self.now in
    let image = row.source.image in
    let e : c.loop-k.k ≡ image.shape.mask_rows = omega arith in
    ticks_are (rw e at c.loop-k.invariant)
    (λ q h. column_all image.shape image.readings.now row.source.ready row.i c.args.j q row.inside
    c.requires.next h)
