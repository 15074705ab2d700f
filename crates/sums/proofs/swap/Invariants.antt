-- Before place q the sums before it are exchanged, and the others are as they were.
use Rattle.sums.specs.Parts.{swapped_sum}
use Rattle.sums.specs.Memory.{IsBegun}
use Rattle.sums.proofs.swap.Given as goal

abbrev pub invariant-loop-q : goal.invariant-loop-q
invariant-loop-q l =
    IsBegun l.initial.sums l.sums l.q (swapped_sum l.initial.sums l.entering l.leaving)
