use Rattle.std.proofs.Common.{◌≡◌, ◌+◌, ◌%◌, ◌^◌, get_or, sym, ap, ◌∙◌, arith}
use Rattle.sums.specs.Memory.{lowest}
use Rattle.sums.specs.Parts.{added_sum}
use Rattle.sums.proofs.Memory.{begun_none, begun_more}
use Rattle.sums.proofs.Lowest.{lowest-none, lowest_turn, lowest-signed, lowest_cong}
use Rattle.sums.proofs.Passes.{added_sum-is}
use Rattle.sums.proofs.add_lowest.Goals as goal
use Rattle.sums.proofs.add_lowest.Goals.{In-loop-q}

-- the sum that the code computes at place q
sum-here : (c : In-loop-q) → let l = c.loop-q in
    (get_or l.sums l.q 0 + get_or c.args.changes.now l.q 0) % 2 ^ 32
    ≡ added_sum c.args.sums.now c.args.changes.now l.q
sum-here c =
    let l = c.loop-q in rw (l.invariant.adding.left l.q (omega arith)) (added_sum-is _ _)

pub loop-q-init : goal.loop-q-init
loop-q-init c = record { adding = begun_none; lowest_so_far = sym (lowest-none _) }

pub lower-least-requires : goal.lower-least-requires
lower-least-requires c =
    let l = c.loop-q in (
      rw (sum-here (goal.at.lower-least-requires c).In-loop-q)
          (c.requires.signed l.q (omega arith)),
      rw l.invariant.lowest_so_far (lowest-signed _ l.q),
    )

pub loop-q-preserved : goal.loop-q-preserved
loop-q-preserved c =
    let l = c.loop-q in
    let here = sum-here (goal.at.loop-q-preserved c).In-loop-q in
    record {
      adding = begun_more l.invariant.adding _ (omega arith) here;
      lowest_so_far = lowest_turn _ l.q c.lower-least.ensures here l.invariant.lowest_so_far;
    }

pub returns-clause-lowest : goal.returns-clause-lowest
returns-clause-lowest c =
    let l = c.loop-q in
    l.invariant.lowest_so_far
    ∙ lowest_cong _ _ _ (λ q h. sym (l.invariant.adding.done q h)) ∙ ap (lowest _) (omega arith)
