-- Before mask row k the mask rows before it have been looked at.
use Rattle.lines.specs.Lines.{AreCentresSoFar}
use Rattle.lines.proofs.image.Image.centres.Given as goal

abbrev pub invariant-loop-k : goal.invariant-loop-k
invariant-loop-k l = AreCentresSoFar l.self.shape l.self.readings.now l.i l.k 0 l.line
