use Rattle.std.specs.Prelude.{slice_index}
use mathlib.Core.Path.{◌≡◌, sym, ◌∙◌, ap}
use native.Mathlib.Omega.{arith}
use lib.ListN.{length}
use Rattle.level_choice.proofs.Outward.{front, walked_front, walked_rear, passed_more}
use Rattle.level_choice.proofs.Column.walk.Goals as goal
use Rattle.level_choice.proofs.Column.walk.Goals.{After-ahead_by-rear}

-- where the tick behind is looked at, the one ahead has not the least sum
not-ahead : (c : After-ahead_by-rear) → let a = c.args.self.now in
    slice_index a.sums.now (front (length a.sums.now) a.centre c.loop-e.e) ≡ a.least → ⊥
not-ahead c g =
    c.if-sums-front.false (ap (slice_index c.args.self.now.sums.now) c.ahead_by-front.ensures ∙ g)

pub returns-then-sums-front : goal.returns-then-sums-front
returns-then-sums-front c =
    let a = c.args.self.now in
    let f = slice_index a.sums.now in
    let at = c.ahead_by-front.ensures in
    rw at
    (walked_front _ a.centre a.tick f a.least a.lowest c.loop-e.e (omega
    (arith, c.requires.within)) c.loop-e.invariant (ap f (sym at) ∙ c.if-sums-front.true))

pub returns-then-sums-rear : goal.returns-then-sums-rear
returns-then-sums-rear c =
    let a = c.args.self.now in
    let f = slice_index a.sums.now in
    let at = c.ahead_by-rear.ensures in
    rw at
    (walked_rear _ a.centre a.tick f a.least a.lowest c.loop-e.e
    (omega (arith, c.requires.within)) c.loop-e.invariant
    (not-ahead (goal.at.returns-then-sums-rear c).After-ahead_by-rear)
    (ap f (sym at) ∙ c.if-sums-rear.true))

pub loop-e-preserved : goal.loop-e-preserved
loop-e-preserved c =
    let a = c.args.self.now in
    let f = slice_index a.sums.now in
    passed_more _ a.centre a.tick f a.least a.lowest c.loop-e.e c.loop-e.invariant
    (not-ahead (goal.at.loop-e-preserved c).After-ahead_by-rear)
    (λ g. c.if-sums-rear.false (ap f c.ahead_by-rear.ensures ∙ g))
