-- The shape is asked first, then lent memory, of which an accepted shape needs so much.
use Rattle.std.proofs.Common.{rules}
use Rattle.refusal.proofs.Outcome.{in_row, passed_clear}
use Rattle.shape.specs.Rules.{shape_rules, area}
use Rattle.filter.specs.Calls.{limit, need, memory_rules, room_due}
use Rattle.filter.proofs.checks.check_room.Goals as goal

pub returns-in_err-check : goal.returns-in_err-check
unfolding room_due
returns-in_err-check c =
    let a = c.args in
    in_row (shape_rules (limit a.engine) a.shape) (memory_rules (area a.shape)
    (need a.engine a.shape) a.output a.work) c.in_err-check.ensures (search rules)

pub need-requires : goal.need-requires
need-requires c =
    passed_clear (shape_rules (limit c.args.engine) c.args.shape) c.in_ok-check.ensures

pub returns : goal.returns
unfolding room_due
returns c =
    let a = c.args in
    in_row (shape_rules (limit a.engine) a.shape) (memory_rules (area a.shape)
    (need a.engine a.shape) a.output a.work) c.in_ok-check.ensures
    (rw (c.need.ensures, c.area.ensures) at c.check_memory.ensures)
