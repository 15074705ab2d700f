-- Before place k the numbers are those of the source.
use Rattle.std.proofs.Common.{◌≡◌, take}
use Rattle.sums.proofs.copy.Given as goal

abbrev pub invariant-loop-k : goal.invariant-loop-k
invariant-loop-k g l = take l.k l.to ≡ take l.k l.from
