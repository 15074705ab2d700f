-- Before tick q the ticks before it are counted and their places added up.
use Rattle.std.specs.Prelude.{slice_index}
use Rattle.level_choice.proofs.Count.{Tallied}
use Rattle.level_choice.proofs.Column.tally.Given as goal

abbrev pub invariant-loop-q : goal.invariant-loop-q
invariant-loop-q l = Tallied (slice_index l.sums) l.least l.q l.count l.places
