-- A reading is a tick or silent: each has its part of the table.
use Prim.Native.Nat.{ℕ, ◌-◌, ◌<◌}
use mathlib.Core.Path.{refl, ap}
use native.Mathlib.Omega.{arith}
use Rattle.cycle.proofs.SilenceLaws.{not_silent, heard-tick}
use Rattle.level_sums.proofs.TableLaws.{part-tick, part-silent}
use Rattle.level_sums.proofs.source.part_of.Goals as goal
use Rattle.level_sums.proofs.source.part_of.Goals.{Else-reading-eq-SILENT}

-- a reading that is not silent is a tick
tick : (c : Else-reading-eq-SILENT) → c.args.reading < c.args.cycle
tick c = heard-tick _ _ c.requires.reading (not_silent _ c.if-reading-eq-SILENT.false)

pub overflow_sub-result : goal.overflow_sub-result
overflow_sub-result c =
    omega (arith, tick (goal.at.overflow_sub-result c).Else-reading-eq-SILENT, c.from.ensures)

pub returns-then-reading-eq-SILENT : goal.returns-then-reading-eq-SILENT
returns-then-reading-eq-SILENT c = part-silent c.requires.limit c.if-reading-eq-SILENT.true refl

pub returns-else-reading-eq-SILENT : goal.returns-else-reading-eq-SILENT
returns-else-reading-eq-SILENT c =
    part-tick c.requires.limit
    (tick (goal.at.returns-else-reading-eq-SILENT c).Else-reading-eq-SILENT)
    (ap (λ (x : ℕ). c.args.cycle - x) c.from.ensures)
