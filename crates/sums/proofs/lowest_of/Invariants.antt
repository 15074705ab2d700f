-- The least so far is the lowest of the sums that the loop has passed.
use Rattle.std.specs.Prelude.{slice_index}
use Rattle.std.proofs.Common.{◌≡◌}
use Rattle.sums.specs.Memory.{lowest}
use Rattle.sums.proofs.lowest_of.Given as goal

abbrev pub invariant-loop-sum : goal.invariant-loop-sum
invariant-loop-sum l = l.least ≡ lowest (slice_index l.sums) l.sum-index
