use native.Mathlib.Omega.{arith}
use Rattle.refusal.specs.Limits.{longest_cycle}
use Rattle.level_choice.proofs.Count.{tallied_none, tallied_more, count_small, places_small}
use Rattle.level_choice.proofs.Column.tally.Goals as goal

pub loop-q-init : goal.loop-q-init
loop-q-init c = tallied_none

pub overflow_add-count : goal.overflow_add-count
overflow_add-count c = omega (arith, count_small c.loop-q.invariant c.if_equal-count.ensures)

pub overflow_add-places : goal.overflow_add-places
overflow_add-places c = omega
    (arith, places_small c.loop-q.invariant longest_cycle (omega arith) c.if_equal-places.ensures)

pub loop-q-preserved : goal.loop-q-preserved
loop-q-preserved c =
    tallied_more c.loop-q.invariant c.if_equal-count.ensures c.if_equal-places.ensures
