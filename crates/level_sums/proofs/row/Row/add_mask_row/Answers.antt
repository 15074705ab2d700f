use mathlib.Core.Path.{◌≡◌, refl}
use Prim.Native.Nat.{◌+◌}
use native.Mathlib.Omega.{arith}
use Rattle.level_sums.proofs.Running.{run_added, ticks_are}
use Rattle.level_sums.proofs.ColumnLaws.{part_sum, part_none, part_more, part_all}
use Rattle.level_sums.proofs.row.Row.add_mask_row.Goals as goal

pub loop-l-init : goal.loop-l-init
loop-l-init c =
    let row = c.args.self.now in
    let image = row.source.image in
    ticks_are c.requires.rows (λ q h. part_none image.shape image.readings.now row.i c.args.k q)

pub loop-l-preserved : goal.loop-l-preserved
loop-l-preserved c =
    let row = c.args.self.now in
    let image = row.source.image in
    let l = c.loop-l.l in
    let sum = part_sum image.shape image.readings.now row.i c.args.k in
    run_added (sum l) (λ q. 0) (sum (l + 1))
    (λ q. 0) c.loop-l.invariant c.add.auto.sums _ c.part_at.ensures c.add.ensures
    (λ q h. part_more image.shape image.readings.now row.i c.args.k l q) (λ q h. refl)

pub returns : goal.returns
returns c =
    let row = c.args.self.now in
    let image = row.source.image in
    let e : c.loop-l.l ≡ image.shape.mask_columns = omega arith in
    ticks_are (rw e at c.loop-l.invariant)
    (λ q h. part_all image.shape image.readings.now row.i c.args.k q)
