-- Each place before j has its rank.
use Rattle.std.proofs.Common.{◌≡◌, ℕ, ◌<◌, get_or}
use Rattle.reading.specs.Pairs.{rank_at}
use Rattle.reading.proofs.lowest_pairs.rank_each.Given as goal

abbrev pub invariant-loop-j : goal.invariant-loop-j
invariant-loop-j l = (k : ℕ) → k < l.j → get_or l.ranks k 0 ≡ rank_at l.cycle l.centres l.own k
