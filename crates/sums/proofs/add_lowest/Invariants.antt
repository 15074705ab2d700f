-- Before place q the sums before it have their numbers added, and the least so far is the lowest of
-- these sums.
use Rattle.std.proofs.Common.{◌≡◌}
use Rattle.sums.specs.Memory.{IsBegun, lowest}
use Rattle.sums.specs.Parts.{added_sum}
use Rattle.sums.proofs.add_lowest.Given as goal

abbrev pub invariant-loop-q : goal.invariant-loop-q
invariant-loop-q l = record {
  adding : IsBegun l.initial.sums l.sums l.q (added_sum l.initial.sums l.changes);
  lowest_so_far : l.least ≡ lowest (added_sum l.initial.sums l.changes) l.q;
}
