-- The engine leaves the work memory behind its need as it was, and `fill` sets the need to 0.
use Rattle.std.proofs.Common.{◌≡◌, length, arith, length-take-le, take}
use Rattle.filter.proofs.CallLaws.{front-zeroed, zeroed}
use Rattle.filter.proofs.job.Job.run.Goals as goal

pub returns-clause-zeroed : goal.returns-clause-zeroed
returns-clause-zeroed c =
    let outside = c.fill.ensures.outside in
    let room = c.requires.work_room in
    let n = c.need-need.result in
    let zeros = c.fill-2.ensures.after (λ y e. e) in
    let taken : length (take n c.fill.new.work) ≡ n = length-take-le n c.fill.new.work
    (omega (arith, c.need-need.ensures, room, outside.len)) in
    zeroed c.args.work.now room outside.len (λ k h. outside.after k (omega arith))
    (front-zeroed {w = c.fill.new.work} c.need-need.ensures
    (omega (arith, c.need-need.ensures, room, outside.len)) (rw taken at zeros))
