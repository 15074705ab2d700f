use Rattle.std.proofs.Common.{◌≡◌, get_or, arith}
use Rattle.sums.specs.Parts.{advanced_change}
use Rattle.sums.proofs.Passes.{in_and_out, advanced_change-is, turning_none, turning_more}
use Rattle.sums.proofs.Passes.{turning-signed, turning_lowest}
use Rattle.sums.proofs.move_sums.Goals as goal
use Rattle.sums.proofs.move_sums.Goals.{In-loop-q}

-- the difference that the code computes at place q
difference-here : (c : In-loop-q) → let a = c.args in let l = c.loop-q in
    in_and_out (get_or l.change l.q 0) (get_or a.first_in.now l.q 0) (get_or a.second_in.now l.q 0)
    (get_or a.first_out.now l.q 0) (get_or a.second_out.now l.q 0)
    ≡ advanced_change a.change.now a.first_in.now a.second_in.now a.first_out.now a.second_out.now
    l.q
difference-here c =
    let l = c.loop-q in
    rw (l.invariant.turning.left l.q (omega arith)) (advanced_change-is _ _ _ _ _
    (c.type_inv.first_out l.q).fits (c.type_inv.second_out l.q).fits)

pub loop-q-init : goal.loop-q-init
loop-q-init c = turning_none

pub lower-least-requires : goal.lower-least-requires
lower-least-requires c =
    turning-signed c.loop-q.invariant (omega arith)
    (difference-here (goal.at.lower-least-requires c).In-loop-q) c.requires.signed

pub loop-q-preserved : goal.loop-q-preserved
loop-q-preserved c =
    turning_more c.loop-q.invariant (omega arith) (difference-here
    (goal.at.loop-q-preserved c).In-loop-q) c.requires.change_long c.lower-least.ensures

pub returns-clause-lowest : goal.returns-clause-lowest
returns-clause-lowest c = turning_lowest c.loop-q.invariant (omega arith)
