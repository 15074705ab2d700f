-- Each place before j has its gain by both rows.
use Rattle.sums.specs.Memory.{Changed}
use Rattle.reading_sums.specs.Passes.{between_two}
use Rattle.reading_sums.proofs.passes.distances_to_two.Given as goal

abbrev pub invariant-loop-j : goal.invariant-loop-j
invariant-loop-j l = Changed l.initial.gains l.gains 0 l.j (between_two l.cycle l.own l.row l.other)
