-- Before place q the sums before it have their numbers added, and the others are as they were.
use Rattle.sums.specs.Parts.{added_sum}
use Rattle.sums.specs.Memory.{IsBegun}
use Rattle.sums.proofs.add.Given as goal

abbrev pub invariant-loop-q : goal.invariant-loop-q
invariant-loop-q l = IsBegun l.initial.sums l.sums l.q (added_sum l.initial.sums l.entering)
