-- Each place before j has its gain.
use Rattle.sums.specs.Memory.{Changed}
use Rattle.reading_sums.specs.Passes.{between}
use Rattle.reading_sums.proofs.passes.distances.Given as goal

abbrev pub invariant-loop-j : goal.invariant-loop-j
invariant-loop-j l = Changed l.initial.gains l.gains 0 l.j (between l.cycle l.own l.row)
