use Rattle.std.proofs.Common.{arith}
use Rattle.sums.proofs.Memory.{begun_more}
use Rattle.reading_sums.proofs.StepLaws.{moved-stored}
use Rattle.reading_sums.proofs.passes.move_on.Goals as goal

pub loop-j-preserved : goal.loop-j-preserved
loop-j-preserved c =
    let l = c.loop-j in
    let a = c.args in
    begun_more l.invariant _ (omega arith) (moved-stored a.changes.now a.steps.now a.half l.j _
    (omega arith) (l.invariant.left l.j (omega arith)))
