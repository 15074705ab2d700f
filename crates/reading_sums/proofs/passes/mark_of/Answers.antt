-- The two cases of the mark: a silent reading, a heard one.
use Rattle.cycle.proofs.SilenceLaws.{unheard, not_silent}
use Rattle.reading_sums.specs.Passes.{mark}
use Rattle.reading_sums.proofs.passes.mark_of.Goals as goal

pub returns-then-q-eq-SILENT : goal.returns-then-q-eq-SILENT
unfolding mark
returns-then-q-eq-SILENT c = rw (unheard _ c.if-q-eq-SILENT.true)

pub returns-else-q-eq-SILENT : goal.returns-else-q-eq-SILENT
unfolding mark
returns-else-q-eq-SILENT c = rw (not_silent _ c.if-q-eq-SILENT.false)
