use Prim.Native.Nat.{◌+◌}
use mathlib.Core.Path.{◌≡◌}
use native.Mathlib.Omega.{arith}
use Rattle.level_sums.proofs.Running.{run_swapped, ticks_zero}
use Rattle.level_sums.proofs.ColumnLaws.{row_sum, row_more, change_none}
use Rattle.level_sums.proofs.step.Step.first_change.Goals as goal

pub loop-l-init : goal.loop-l-init
loop-l-init c =
    let step = c.args.self.now in
    let image = step.source.image in
    ticks_zero (c.fill.ensures.after (λ y e. e)) c.requires
    (change_none image.shape image.readings.now step.i)

pub loop-l-preserved : goal.loop-l-preserved
loop-l-preserved c =
    let step = c.args.self.now in
    let image = step.source.image in
    let l = c.loop-l.l in
    let below = step.i + image.shape.mask_rows in
    let sum = row_sum image.shape image.readings.now in
    run_swapped (sum below l) (sum step.i l) (sum below (l + 1))
    (sum step.i (l + 1)) c.loop-l.invariant c.swap.auto.sums _ _ c.part_at-entering.ensures
    c.part_at-leaving.ensures c.swap.ensures (λ q h. row_more image.shape image.readings.now below l
    q) (λ q h. row_more image.shape image.readings.now step.i l q)

pub returns : goal.returns
returns c =
    let e : c.loop-l.l ≡ c.args.self.now.source.image.shape.mask_columns = omega arith in
    rw e at c.loop-l.invariant
