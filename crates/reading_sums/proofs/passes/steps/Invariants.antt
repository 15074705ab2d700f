-- Each place before j has its step.
use Rattle.sums.specs.Memory.{Changed}
use Rattle.reading_sums.specs.Passes.{step_at}
use Rattle.reading_sums.proofs.passes.steps.Given as goal

abbrev pub invariant-loop-j : goal.invariant-loop-j
invariant-loop-j l =
    Changed l.initial.steps l.steps 0 l.j (step_at l.cycle l.own l.entering l.leaving)
