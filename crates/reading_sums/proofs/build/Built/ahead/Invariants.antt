-- Before turn m the changes have m columns from each place on counted, and the last m planes are
-- put from them.
use Rattle.lines.specs.Lines.{IsLine}
use Rattle.reading_sums.specs.Passes.{marks}
use Rattle.reading_sums.specs.Planes.{of_rows, no_gain, mark_at}
use Rattle.reading_sums.proofs.SweepAhead.{SweepAhead}
use Rattle.reading_sums.proofs.build.Built.ahead.Given as goal

abbrev pub invariant-loop-m : goal.invariant-loop-m
invariant-loop-m l = record {
  sweep : SweepAhead l.self.image.shape (marks l.self.own.now) (mark_at l.self.own.now)
      (of_rows l.self.image.shape l.self.image.readings.now l.self.i l.self.own.now) no_gain
      l.initial.planes l.planes l.changes l.m;
  long : IsLine l.changes;
}
