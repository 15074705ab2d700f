-- The shape is asked first, then the image, which an accepted shape needs work memory for.
use Rattle.std.proofs.Common.{rules}
use Rattle.refusal.proofs.Outcome.{in_row, passed_clear}
use Rattle.shape.specs.Rules.{shape_rules}
use Rattle.filter.specs.Calls.{limit, need, image_rules, filter_due}
use Rattle.filter.proofs.checks.check_filter.Goals as goal

pub returns-in_err-check : goal.returns-in_err-check
unfolding filter_due
returns-in_err-check c =
    let a = c.args in
    in_row (shape_rules (limit a.engine) a.shape) (image_rules a.shape (need a.engine a.shape)
    a.rows.now.start a.rows.now.end a.input.now a.output a.work) c.in_err-check.ensures
    (search rules)

pub need-requires : goal.need-requires
need-requires c =
    passed_clear (shape_rules (limit c.args.engine) c.args.shape) c.in_ok-check.ensures

pub returns : goal.returns
unfolding filter_due
returns c =
    let a = c.args in
    in_row (shape_rules (limit a.engine) a.shape) (image_rules a.shape (need a.engine a.shape)
    a.rows.now.start a.rows.now.end a.input.now a.output a.work) c.in_ok-check.ensures
    (rw c.need.ensures at c.check_image.ensures)
