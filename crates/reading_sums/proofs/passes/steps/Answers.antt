use Rattle.std.proofs.Common.{arith}
use Rattle.reading_sums.proofs.StepLaws.{found_half}
use Rattle.reading_sums.proofs.passes.steps.Goals as goal

pub overflow_add-steps : goal.overflow_add-steps
overflow_add-steps c = omega (arith, found_half _ _ _ c.share_of-gain.ensures)

pub overflow_sub-steps : goal.overflow_sub-steps
overflow_sub-steps c = omega (arith, found_half _ _ _ c.share_of-loss.ensures)
