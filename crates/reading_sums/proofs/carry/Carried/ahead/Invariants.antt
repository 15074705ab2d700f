-- Before turn m the changes have m columns from each place on counted, and the last m planes have
-- them added.
use Rattle.sums.specs.Parts.{zeros}
use Rattle.lines.specs.Lines.{IsLine}
use Rattle.reading_sums.specs.Passes.{of_line}
use Rattle.reading_sums.specs.Planes.{carried_number}
use Rattle.reading_sums.proofs.SweepAhead.{SweepAhead}
use Rattle.reading_sums.proofs.carry.Carried.ahead.Given as goal

abbrev pub invariant-loop-m : goal.invariant-loop-m
invariant-loop-m l = record {
  sweep : SweepAhead l.shape zeros (carried_number l.shape l.initial.planes)
      (of_line l.shape.cycle l.own l.entering) (of_line l.shape.cycle l.own l.leaving)
      l.initial.planes l.planes l.changes l.m;
  long : IsLine l.changes;
}
