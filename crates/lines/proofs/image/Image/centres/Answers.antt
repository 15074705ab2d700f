use native.Mathlib.Omega.{arith}
use Rattle.refusal.specs.Limits.{longest_cycle}
use Rattle.shape.proofs.Accepted.{shape_clear}
use Rattle.sums.proofs.Memory.{changed_part}
use Rattle.lines.proofs.Standing.{standing_start, standing_done, standing_all, heard_front}
use Rattle.lines.proofs.image.Image.centres.Goals as goal

pub loop-k-init : goal.loop-k-init
loop-k-init c =
    let sizes = shape_clear longest_cycle c.args.self.now.shape c.args.self.now.ready.shape in
    standing_start (omega arith)
    (changed_part c.copy.new.to (omega (arith, sizes.columns_fit))
    (omega arith) c.copy.ensures.len
    (λ q h. rw (c.copy.ensures.after, c.row.ensures)))

pub returns-after-loop-k : goal.returns-after-loop-k
returns-after-loop-k c = standing_all c.loop-k.invariant (omega arith)

pub returns-then-all_heard : goal.returns-then-all_heard
returns-then-all_heard c =
    let sizes = shape_clear longest_cycle c.args.self.now.shape c.args.self.now.ready.shape in
    standing_done (omega arith) c.loop-k.invariant
    (heard_front _ _ (c.all_heard.ensures c.if-all_heard.true)
    (omega (arith, sizes.columns_fit, c.loop-k.invariant.len)))
