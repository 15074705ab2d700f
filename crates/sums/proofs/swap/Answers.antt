use Rattle.std.proofs.Common.{arith}
use Rattle.sums.proofs.Memory.{begun_more}
use Rattle.sums.proofs.Passes.{swapped_sum-is}
use Rattle.sums.proofs.swap.Goals as goal

pub loop-q-preserved : goal.loop-q-preserved
loop-q-preserved c =
    let l = c.loop-q in
    begun_more l.invariant _ (omega arith) (rw (l.invariant.left l.q (omega arith))
    (swapped_sum-is _ _ _ (omega (arith, c.type_inv.leaving l.q))))
