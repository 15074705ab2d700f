-- The cycle is asked first, then the sizes, then the mask.
use Rattle.std.proofs.Common.{◌++◌, rules}
use Rattle.refusal.proofs.Outcome.{in_row}
use Rattle.cycle.specs.Calls.{cycle_rules}
use Rattle.shape.specs.Rules.{size_rules, mask_rules}
use Rattle.shape.proofs.Shape.check.Goals as goal

pub returns-in_err-check_cycle : goal.returns-in_err-check_cycle
returns-in_err-check_cycle c =
    let s = c.args.self in
    in_row (cycle_rules c.args.limit s.cycle)
    (size_rules s.rows s.columns ++ mask_rules s.mask_rows s.mask_columns)
    c.in_err-check_cycle.ensures (search rules)

pub returns-in_err-check_size : goal.returns-in_err-check_size
returns-in_err-check_size c =
    let s = c.args.self in
    let sizes = size_rules s.rows s.columns in
    let mask = mask_rules s.mask_rows s.mask_columns in
    in_row (cycle_rules c.args.limit s.cycle) (sizes ++ mask) c.in_ok-check_cycle.ensures
    (in_row sizes mask c.in_err-check_size.ensures (search rules))

pub returns : goal.returns
returns c =
    let s = c.args.self in
    let sizes = size_rules s.rows s.columns in
    let mask = mask_rules s.mask_rows s.mask_columns in
    in_row (cycle_rules c.args.limit s.cycle) (sizes ++ mask) c.in_ok-check_cycle.ensures
    (in_row sizes mask c.in_ok-check_size.ensures c.check_mask.ensures)
