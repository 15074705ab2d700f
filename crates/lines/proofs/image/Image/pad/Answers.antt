-- The row that is copied, with its mirrored edges, is the padded row, and its numbers are readings.
use Prim.Native.Nat.{◌≤◌, ◌+◌}
use lib.ListN.{length}
use native.Mathlib.Omega.{arith}
use Rattle.refusal.specs.Limits.{longest_cycle}
use Rattle.shape.specs.Rules.{reach}
use Rattle.shape.proofs.Accepted.{shape_clear}
use Rattle.sums.proofs.Memory.{changed_part}
use Rattle.window.proofs.Window.{padded-reading}
use Rattle.lines.specs.Lines.{IsLine}
use Rattle.lines.proofs.Padding.{line_made}
use Rattle.lines.proofs.image.Image.pad.Goals as goal

pub returns : goal.returns
returns c =
    let image = c.args.self.now in
    let sizes = shape_clear longest_cycle image.shape image.ready.shape in
    let len : IsLine c.args.line.now = omega arith in
    let room : reach image.shape.mask_columns + image.shape.columns ≤ length c.args.line.now =
    omega (arith, sizes.columns_fit, sizes.mask_columns_fit) in
    line_made image.shape image.readings.now c.args.position c.row_at.ensures.place
    sizes.columns_some
    (padded-reading image.ready (omega arith) c.args.position) len
    (changed_part c.copy.new.to room (omega arith) c.copy.ensures.len
    (λ q h. rw (c.copy.ensures.after, c.row-row.ensures)))
    c.mirror_edges.ensures
