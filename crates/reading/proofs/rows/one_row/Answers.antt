-- With every mask row weighed, the ranks that are kept give the phases.
use mathlib.Core.Path.{◌∙◌}
use native.Mathlib.Omega.{arith}
use Rattle.reading.proofs.RowWeighing.{row_unweighed, row_ranks, row_phases}
use Rattle.reading.proofs.rows.one_row.Goals as goal

pub carry_rows-requires-clause-weighed : goal.carry_rows-requires-clause-weighed
carry_rows-requires-clause-weighed c =
    row_unweighed c.reset.ensures.sums_changed c.reset.ensures.ranks_changed

pub phases-requires-clause-readings : goal.phases-requires-clause-readings
phases-requires-clause-readings c = λ j h.
    (row_ranks c.args.image.now.ready c.requires.inside
    c.centres.ensures c.build_rows.ensures.weighed j (omega (arith, c.requires.width))).0

pub returns-clause-phases : goal.returns-clause-phases
returns-clause-phases c =
    row_phases c.args.image.now.ready c.requires.inside c.centres.ensures
    (c.phases.auto.phases ∙ c.requires.width) c.build_rows.ensures.weighed
    c.phases.ensures
