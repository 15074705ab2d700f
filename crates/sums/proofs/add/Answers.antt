use Rattle.std.proofs.Common.{arith}
use Rattle.sums.proofs.Memory.{begun_more}
use Rattle.sums.proofs.Passes.{added_sum-is}
use Rattle.sums.proofs.add.Goals as goal

pub loop-q-preserved : goal.loop-q-preserved
loop-q-preserved c =
    let l = c.loop-q in
    begun_more l.invariant _ (omega arith)
    (rw (l.invariant.left l.q (omega arith)) (added_sum-is _ _))
