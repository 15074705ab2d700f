-- The changes before place j have their gains added, and the others are as they were.
use Rattle.sums.specs.Memory.{IsBegun}
use Rattle.sums.specs.Parts.{added_sum}
use Rattle.reading_sums.proofs.passes.grow.Given as goal

abbrev pub invariant-loop-j : goal.invariant-loop-j
invariant-loop-j l = IsBegun l.initial.changes l.changes l.j (added_sum l.initial.changes l.gains)
