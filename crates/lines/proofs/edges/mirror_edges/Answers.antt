use native.Mathlib.Omega.{arith}
use Rattle.lines.proofs.Edging.{edging_none, edging_more}
use Rattle.lines.proofs.edges.mirror_edges.Goals as goal

pub loop-k-init : goal.loop-k-init
loop-k-init c = edging_none

pub loop-k-preserved : goal.loop-k-preserved
loop-k-preserved c = edging_more c.loop-k.invariant c.requires.row (omega arith) c.requires.room
