-- The pairs before place j are weighed, and the others are as they were.
use Rattle.std.specs.Prelude.{slice_index}
use Rattle.sums.specs.Memory.{Changed}
use Rattle.reading.specs.Pairs.{least_sum, nearest_rank}
use Rattle.reading.proofs.lowest_pairs.weigh_each.Given as goal

abbrev pub invariant-loop-j : goal.invariant-loop-j
invariant-loop-j l = record {
  sums : Changed l.initial.least l.least 0 l.j
      (least_sum l.sums (slice_index l.ranks) l.initial.least l.initial.nearest);
  ranks : Changed l.initial.nearest l.nearest 0 l.j
      (nearest_rank l.sums (slice_index l.ranks) l.initial.least l.initial.nearest);
}
