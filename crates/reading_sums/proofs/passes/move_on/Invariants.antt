-- The changes before place j have moved on, and the others are as they were.
use Rattle.sums.specs.Memory.{IsBegun}
use Rattle.reading_sums.specs.Passes.{moved_change}
use Rattle.reading_sums.proofs.passes.move_on.Given as goal

abbrev pub invariant-loop-j : goal.invariant-loop-j
invariant-loop-j l =
    IsBegun l.initial.changes l.changes l.j (moved_change l.initial.changes l.steps l.half)
