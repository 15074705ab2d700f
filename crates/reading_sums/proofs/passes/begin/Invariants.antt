-- Each place before j has the mark of its reading.
use Rattle.std.proofs.Common.{◌≡◌, ℕ, ◌<◌, get_or}
use Rattle.reading_sums.specs.Passes.{marks}
use Rattle.reading_sums.proofs.passes.begin.Given as goal

abbrev pub invariant-loop-j : goal.invariant-loop-j
invariant-loop-j l = (k : ℕ) → k < l.j → get_or l.changes k 0 ≡ marks l.own k
