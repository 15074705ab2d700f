-- The rank is computed from the way ahead, as `rank_by` is.
use Rattle.std.proofs.Common.{ap, ◌∙◌}
use Rattle.median.specs.Ranks.{rank_by}
use Rattle.median.proofs.RankLaws.{rank_by_code}
use Rattle.median.proofs.ranks.rank_of.Goals as goal

pub returns : goal.returns
returns c =
    rank_by_code c.args.cycle _ c.saturating_sub.ensures c.min-d.ensures c.from.ensures
    ∙ ap (rank_by c.args.cycle) c.way_to-e.ensures
