-- The two cases: a silent centre, a heard one.
use Rattle.cycle.proofs.SilenceLaws.{unheard, not_silent}
use Rattle.median.proofs.ranks.unless_silent.Goals as goal

pub returns-then-centre-eq-SILENT : goal.returns-then-centre-eq-SILENT
returns-then-centre-eq-SILENT c = rw (unheard _ c.if-centre-eq-SILENT.true)

pub returns-else-centre-eq-SILENT : goal.returns-else-centre-eq-SILENT
returns-else-centre-eq-SILENT c = rw (not_silent _ c.if-centre-eq-SILENT.false)
