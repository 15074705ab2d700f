-- A centre that is not silent is a tick, and so is what is chosen, which 16 bits hold.
use native.Mathlib.Omega.{arith}
use Rattle.cycle.proofs.SilenceLaws.{not_silent, heard-tick}
use Rattle.median.proofs.Choice.{candidate_below}
use Rattle.level.proofs.rows.phase_by_lowest.Goals as goal

pub choose-requires-clause-tick : goal.choose-requires-clause-tick
choose-requires-clause-tick c = rw c.from.ensures
    (heard-tick _ _ c.requires.choosable.reading (not_silent _ c.if-centre-eq-SILENT.false))

pub overflow_cast-result : goal.overflow_cast-result
overflow_cast-result c =
    omega (arith, candidate_below _ _ c.choose.ensures.candidate, c.requires.choosable.fits)
