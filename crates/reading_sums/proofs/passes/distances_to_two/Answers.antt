use Rattle.std.proofs.Common.{arith}
use Rattle.reading_sums.proofs.StepLaws.{found_half}
use Rattle.reading_sums.proofs.passes.distances_to_two.Goals as goal

pub overflow_add-gains : goal.overflow_add-gains
overflow_add-gains c = omega
    (arith, found_half _ _ _ c.share_of.ensures, found_half _ _ _ c.share_of-in-loop-j.ensures)
