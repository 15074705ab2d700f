-- No test was due, so the image is ready for the engine, and the range lies in it.
use Rattle.std.proofs.Common.{sym, arith}
use Rattle.lines.proofs.Given.{ready_wider}
use Rattle.window.specs.Ready.{IsReady}
use Rattle.filter.specs.Calls.{limit}
use Rattle.filter.proofs.CallLaws.{call-tested, call-ready, limit-fits}
use Rattle.filter.proofs.job.Job.new.Goals as goal
use Rattle.filter.proofs.job.Job.new.Goals.{In_ok-check_filter}

-- the image is ready
ready : (c : In_ok-check_filter) → let a = c.args in
    IsReady (limit a.engine) a.shape a.input.now
ready c = let a = c.args in
    call-ready a.engine a.shape a.rows.start a.rows.end a.input.now _ _
    (sym c.in_ok-check_filter.ensures)

pub invariant_of-image : goal.invariant_of-image
invariant_of-image c = record { ready = ready_wider (limit-fits c.args.engine) (ready c) }

pub invariant_of-result : goal.invariant_of-result
invariant_of-result c =
    let a = c.args in
    let s = (goal.at.invariant_of-result c).In_ok-check_filter in
    let tested = call-tested a.engine a.shape a.rows.start a.rows.end a.input.now _ _
    (sym s.in_ok-check_filter.ensures) in
    record {
      ready = ready s;
      order = omega (arith, tested.order, tested.within);
      within = omega (arith, tested.order, tested.within);
    }
