-- `least` is the least key before place k.
use Rattle.std.proofs.Common.{◌≡◌}
use Rattle.sums.specs.Memory.{lowest}
use Rattle.live.specs.Passes.{key_at}
use Rattle.live.proofs.choice.least_key.Given as goal

abbrev pub invariant-loop-k : goal.invariant-loop-k
invariant-loop-k l = l.least ≡ lowest (key_at l.cycle l.centre l.readings l.sums) l.k
