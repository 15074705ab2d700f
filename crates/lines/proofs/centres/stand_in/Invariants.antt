-- Before place j the silent centres before it are replaced, and the others are as they were.
use Rattle.sums.specs.Memory.{IsBegun}
use Rattle.lines.specs.Lines.{heard_or_at}
use Rattle.lines.proofs.centres.stand_in.Given as goal

abbrev pub invariant-loop-j : goal.invariant-loop-j
invariant-loop-j l =
    IsBegun l.initial.centres l.centres l.j (heard_or_at l.initial.centres l.readings)
