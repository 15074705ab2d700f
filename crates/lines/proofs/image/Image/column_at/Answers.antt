-- A mirrored index is below the extent of its axis.
use Rattle.refusal.specs.Limits.{longest_cycle}
use Rattle.shape.proofs.Accepted.{shape_clear}
use Rattle.window.proofs.Mirror.{mirror_below}
use Rattle.lines.proofs.image.Image.column_at.Goals as goal

pub returns-clause-within : goal.returns-clause-within
returns-clause-within c = rw c.mirror_index.ensures
    (mirror_below _ _ _ (shape_clear longest_cycle _ c.args.self.now.ready.shape).columns_some)
