-- Before step e no tick nearer than e has the least sum.
use Rattle.std.specs.Prelude.{slice_index}
use lib.ListN.{length}
use Rattle.level_choice.specs.Walk.{HasPassed}
use Rattle.level_choice.proofs.Column.walk.Given as goal

abbrev pub invariant-loop-e : goal.invariant-loop-e
invariant-loop-e l = HasPassed (length l.sums) l.centre (slice_index l.sums) l.least l.e
