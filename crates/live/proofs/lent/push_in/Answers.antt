-- A refusal returns at once; else the two passes are those of `EnteredBy`.
use Rattle.std.proofs.Common.{ℕ, rules, arith, length-take}
use Rattle.refusal.specs.Outcome.{IsClear}
use Rattle.refusal.proofs.Outcome.{passed_clear}
use Rattle.live.specs.Calls.{push_rules}
use Rattle.live.proofs.Sizes.{Sizes, push_clear}
use Rattle.live.proofs.Calls.{push_refused, push_passed}
use Rattle.live.proofs.lent.push_in.Goals as goal
use Rattle.live.proofs.lent.push_in.Goals.{In_ok-check_push}

-- the tests are clear
tested : (c : In_ok-check_push) → let a = c.args in IsClear (push_rules a.cycle a.length a.reading)
tested c =
    let a = c.args in
    passed_clear (push_rules a.cycle a.length a.reading) c.in_ok-check_push.ensures

-- the sizes have passed theirs
sizes : (c : In_ok-check_push) → let a = c.args in Sizes a.cycle a.length
sizes c = let a = c.args in (push_clear a.cycle a.length a.reading (tested c)).0

pub returns-in_err-check_push : goal.returns-in_err-check_push
returns-in_err-check_push c =
    push_refused _ c.args.reading c.in_err-check_push.ensures (search rules)

pub slice_bounds-readings-end : goal.slice_bounds-readings-end
slice_bounds-readings-end c = omega (arith, sizes c)

pub overflow_cast-cycle : goal.overflow_cast-cycle
overflow_cast-cycle c = omega (arith, sizes (goal.at.overflow_cast-cycle c).In_ok-check_push)

pub slide-requires-clause-some : goal.slide-requires-clause-some
slide-requires-clause-some c = omega
    (arith, sizes (goal.at.slide-requires-clause-some c).In_ok-check_push, length-take {A = ℕ})

pub answer_by-requires : goal.answer_by-requires
answer_by-requires c =
    let k = sizes (goal.at.answer_by-requires c).In_ok-check_push in
    record {
      cycle_some = k.cycle_some;
      cycle_fits = k.cycle_fits;
      some = omega (arith, k, length-take {A = ℕ});
      fits = omega (arith, k, length-take {A = ℕ});
      sums_alike = omega (arith, length-take {A = ℕ});
    }

pub returns : goal.returns
returns c =
    let at = (goal.at.returns c).In_ok-check_push in
    let k = sizes at in
    push_passed (record {
      tested = tested at;
      readings_long = omega (arith, k, length-take {A = ℕ});
      sums_long = omega (arith, k, length-take {A = ℕ});
      into_readings = c.slide.ensures.readings;
      into_sums = c.slide.ensures.sums;
      count = omega arith;
      answer = c.answer_by.ensures;
    })
