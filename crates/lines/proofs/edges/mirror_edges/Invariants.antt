-- Before turn k the row has k mirrored numbers at each end.
use Rattle.lines.proofs.Edging.{Edging}
use Rattle.lines.proofs.edges.mirror_edges.Given as goal

abbrev pub invariant-loop-k : goal.invariant-loop-k
invariant-loop-k l = Edging l.initial.line l.line l.n l.reach l.k
