-- Before place k stand the readings and sums of the window that the reading has entered, from place
-- k on those that were lent; `total` is the sum at the newest so far.
use Rattle.std.proofs.Common.{◌≡◌}
use Rattle.sums.specs.Memory.{IsBegun}
use Rattle.live.specs.Passes.{reading_behind, slid_sum, distances_to}
use Rattle.live.proofs.running_sums.slide.Given as goal

abbrev pub invariant-loop-k : goal.invariant-loop-k
invariant-loop-k l = record {
  moved : IsBegun l.initial.readings l.readings l.k (reading_behind l.initial.readings);
  summed : IsBegun l.initial.sums l.sums l.k
      (slid_sum l.cycle l.newest l.initial.readings l.initial.sums);
  newest : l.total ≡ distances_to l.cycle l.newest l.initial.readings l.k;
}
