-- The code's subtraction and addition wrap at 16 bits, as the definition does.
use Rattle.std.proofs.Common.{arith}
use Rattle.median.proofs.RankLaws.{way_by_code}
use Rattle.median.proofs.ranks.way_to.Goals as goal

pub returns : goal.returns
returns c = way_by_code c.args.cycle c.args.a c.args.q _ (omega arith) c.cycle_if_behind.ensures
