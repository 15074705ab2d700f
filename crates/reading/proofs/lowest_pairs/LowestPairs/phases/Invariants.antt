-- Each column before j has its phase.
use Rattle.std.proofs.Common.{◌≡◌, ℕ, ◌<◌, get_or}
use Rattle.reading.specs.Pairs.{phases_by}
use Rattle.reading.proofs.lowest_pairs.LowestPairs.phases.Given as goal

abbrev pub invariant-loop-j : goal.invariant-loop-j
invariant-loop-j l = (k : ℕ) → k < l.j
    → get_or l.phases k 0 ≡ phases_by l.cycle l.centres l.self.nearest k
