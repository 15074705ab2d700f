use Prim.Native.Nat.{◌<◌, ◌≤◌}
use mathlib.Core.Path.{◌∙◌}
use native.Mathlib.Omega.{arith}
use lib.ListN.{length}
use lib.Seq.{length-take-le}
use Rattle.refusal.specs.Limits.{longest_cycle}
use Rattle.shape.proofs.Accepted.{shape_clear}
use Rattle.sums.proofs.Memory.{changed_part}
use Rattle.lines.proofs.Standing.{standing_more, standing_row, heard_or_part}
use Rattle.lines.proofs.image.Image.stand_in_row.Goals as goal

pub loop-l-preserved : goal.loop-l-preserved
loop-l-preserved c =
    let image = c.args.self.now in
    let line = c.loop-l.line in
    let sizes = shape_clear longest_cycle image.shape image.ready.shape in
    let room : image.shape.columns ≤ length line =
    omega (arith, sizes.columns_fit, c.loop-l.invariant.len) in
    standing_more c.loop-l.invariant (omega (arith, sizes.mask_columns_odd)) c.pad.ensures
    (changed_part c.stand_in.new.centres (omega arith) (omega arith) c.stand_in.auto.centres
    (λ j h.
    let below : j < image.shape.columns =
    omega (arith, c.stand_in.auto.centres, length-take-le image.shape.columns line room) in
    c.stand_in.ensures j h
    ∙ heard_or_part image.shape.columns _ c.loop-l.l line c.pad.new.line j below
    (omega (arith, sizes.columns_fit, sizes.mask_columns_fit))))

pub returns : goal.returns
returns c = standing_row c.loop-l.invariant (omega arith)
