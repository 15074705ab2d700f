-- The padded image holds readings, of which the table has parts.
use native.Mathlib.Omega.{arith}
use Rattle.window.proofs.Window.{padded-reading}
use Rattle.level_sums.proofs.source.Source.part_at.Goals as goal

pub part_of-start-requires-clause-reading : goal.part_of-start-requires-clause-reading
part_of-start-requires-clause-reading c =
    rw c.at.ensures (padded-reading c.args.self.now.ready
    (omega arith) c.args.row_position c.args.column_position)
