-- Before place q the differences and sums before it are the new ones, and the least so far is the
-- lowest of these sums.
use Rattle.sums.specs.Parts.{advanced_change}
use Rattle.sums.proofs.Passes.{Turning}
use Rattle.sums.proofs.move_sums.Given as goal

abbrev pub invariant-loop-q : goal.invariant-loop-q
invariant-loop-q l =
    Turning l.initial.sums l.sums l.initial.change l.change l.q l.least
    (advanced_change l.initial.change l.first_in l.second_in l.first_out l.second_out)
