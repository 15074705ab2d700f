use Rattle.std.specs.Prelude.{slice_index}
use Rattle.std.proofs.Common.{sym, refl, arith}
use Rattle.sums.proofs.Lowest.{lowest-none, lowest_turn, lowest-signed}
use Rattle.sums.proofs.lowest_of.Goals as goal

pub loop-sum-init : goal.loop-sum-init
loop-sum-init c = sym (lowest-none _)

pub lower-least-requires : goal.lower-least-requires
lower-least-requires c =
    let l = c.loop-sum in (
      c.requires l.sum-index (omega arith),
      omega (arith, lowest-signed (slice_index c.args.sums.now) l.sum-index),
    )

pub loop-sum-preserved : goal.loop-sum-preserved
loop-sum-preserved c =
    lowest_turn (slice_index c.args.sums.now) c.loop-sum.sum-index c.lower-least.ensures refl
    c.loop-sum.invariant
