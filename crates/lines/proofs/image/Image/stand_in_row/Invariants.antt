-- Before mask column l the mask columns of row k before it have been looked at.
use Rattle.lines.specs.Lines.{AreCentresSoFar}
use Rattle.lines.proofs.image.Image.stand_in_row.Given as goal

abbrev pub invariant-loop-l : goal.invariant-loop-l
invariant-loop-l l = AreCentresSoFar l.self.shape l.self.readings.now l.i l.k l.l l.line
