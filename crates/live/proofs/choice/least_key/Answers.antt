-- One key more: the lower of it and the least before.
use Rattle.std.proofs.Common.{sym, arith}
use Rattle.sums.proofs.Lowest.{lowest-none, lowest_turn, lowest-signed}
use Rattle.live.specs.Passes.{key_at}
use Rattle.live.proofs.Passes.{key-signed}
use Rattle.live.proofs.choice.least_key.Goals as goal

pub loop-k-init : goal.loop-k-init
loop-k-init c = sym (lowest-none _)

pub lower-least-requires : goal.lower-least-requires
lower-least-requires c =
    let a = c.args in (
      rw c.key_of.ensures (key-signed a.cycle a.centre _ _ (omega arith)),
      rw c.loop-k.invariant
          (lowest-signed (key_at a.cycle a.centre a.readings.now a.sums.now) c.loop-k.k),
    )

pub loop-k-preserved : goal.loop-k-preserved
loop-k-preserved c =
    lowest_turn _ c.loop-k.k c.lower-least.ensures c.key_of.ensures c.loop-k.invariant
