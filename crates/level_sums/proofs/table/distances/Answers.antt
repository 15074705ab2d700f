use Prim.Native.Nat.{ℕ}
use mathlib.Core.Path.{sym, ap, ◌∙◌}
use native.Mathlib.Omega.{arith}
use native.Mathlib.Nat.{mod-eq_of_lt}
use Rattle.cycle.specs.Distance.{distance}
use Rattle.level_sums.proofs.TableLaws.{filling-none, filling_turn, filling_all}
use Rattle.level_sums.proofs.table.distances.Goals as goal

pub loop-tick-init : goal.loop-tick-init
loop-tick-init c = rw c.requires.zeros filling-none

pub loop-tick-preserved : goal.loop-tick-preserved
loop-tick-preserved c =
    filling_turn c.loop-tick.invariant (omega arith) (omega arith) c.requires.limit
    (c.distance_at.ensures ∙ ap (λ (x : ℕ). distance c.args.cycle x 0)
    (sym (mod-eq_of_lt c.loop-tick-test.true)))

pub returns : goal.returns
returns c =
    let split = c.split_at_mut-round.ensures in
    filling_all c.loop-tick.invariant (omega arith) c.requires.limit split.front split.back
    c.copy.ensures.after
