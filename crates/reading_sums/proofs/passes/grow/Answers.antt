use Rattle.std.proofs.Common.{arith}
use Rattle.sums.proofs.Memory.{begun_more}
use Rattle.reading_sums.proofs.StepLaws.{grown-stored}
use Rattle.reading_sums.proofs.passes.grow.Goals as goal

pub loop-j-preserved : goal.loop-j-preserved
loop-j-preserved c =
    let l = c.loop-j in
    begun_more l.invariant _ (omega arith) (grown-stored c.args.changes.now c.args.gains.now l.j _
    (l.invariant.left l.j (omega arith)))
