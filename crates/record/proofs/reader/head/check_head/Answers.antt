-- The tests of three fields, of the mask and of the readings buffer follow one another.
use Rattle.std.proofs.Common.{◌≡◌, ℕ, List, [], ◌∷◌, ◌++◌, rules}
use Rattle.refusal.specs.Outcome.{Outcome, Rule, first_due}
use Rattle.refusal.proofs.Outcome.{handed_on, passed_first, handed_alone}
use Rattle.shape.specs.Rules.{mask_rules, area, buffer_rule}
use Rattle.record_format.specs.declared.Tag.TheVariants as tags
use Rattle.record_format.specs.Layout.{mask_field_at}
use Rattle.record_format.specs.Reading.{shape_in, mask_due, field_rules, cycle_field_rules}
use Rattle.record_format.specs.Reading.{size_field_rules, mask_value_rules}
use Rattle.record.specs.Stages.{head_rules}
use Rattle.record.proofs.reader.head.check_head.Goals as goal
use Rattle.record.proofs.reader.head.check_head.Goals.{In_ok-check_mask_field}

-- the tests of field 03
abbrev mask : List ℕ → List Rule
mask b = field_rules b mask_field_at tags.Mask (mask_due b)

-- these and all that follow
abbrev from_mask : List ℕ → ℕ → List Rule
from_mask b room = mask b ++ mask_value_rules (shape_in b) room

-- all tests from field 02 on
abbrev from_size : List ℕ → ℕ → List Rule
from_size b room = size_field_rules b ++ from_mask b room

-- all tests
abbrev all : List ℕ → ℕ → List Rule
all b room = head_rules b ++ mask_value_rules (shape_in b) room

-- three fields have passed, and the tests of the values say the rest
values-left : (c : In_ok-check_mask_field) {next : Outcome _} → let b = c.args.bytes.now in let s =
    shape_in b in
    next ≡ first_due (mask_value_rules s c.args.room) s → next ≡ first_due (all b c.args.room) s
values-left c rest =
    let b = c.args.bytes.now in
    let s = shape_in b in
    passed_first (cycle_field_rules b) s (from_size b c.args.room) c.in_ok-check_cycle_field.ensures
    (passed_first (size_field_rules b) s (from_mask b c.args.room) c.in_ok-check_size_field.ensures
    (passed_first (mask b) s
    (mask_value_rules s c.args.room) c.in_ok-check_mask_field.ensures rest))

pub returns-in_err-check_size_field : goal.returns-in_err-check_size_field
returns-in_err-check_size_field c =
    let b = c.args.bytes.now in
    passed_first (cycle_field_rules b) (shape_in b)
    (from_size b c.args.room) c.in_ok-check_cycle_field.ensures
    (handed_on (size_field_rules b) (shape_in b)
    (from_mask b c.args.room) c.in_err-check_size_field.ensures (search rules))

pub returns-in_err-check_mask_field : goal.returns-in_err-check_mask_field
returns-in_err-check_mask_field c =
    let b = c.args.bytes.now in
    let s = shape_in b in
    passed_first (cycle_field_rules b) s (from_size b c.args.room) c.in_ok-check_cycle_field.ensures
    (passed_first (size_field_rules b) s (from_mask b c.args.room) c.in_ok-check_size_field.ensures
    (handed_on (mask b) s (mask_value_rules s c.args.room) c.in_err-check_mask_field.ensures
    (search rules)))

pub returns-in_err-check_mask : goal.returns-in_err-check_mask
returns-in_err-check_mask c =
    let s = shape_in c.args.bytes.now in
    let answer-is = rw c.shape_in-shape.ensures at c.in_err-check_mask.ensures in
    values-left (goal.at.returns-in_err-check_mask c).In_ok-check_mask_field
    (handed_on (mask_rules s.mask_rows s.mask_columns) s
    (buffer_rule (area s) c.args.room ∷ []) answer-is (search rules))

pub returns-in_err-check_buffer : goal.returns-in_err-check_buffer
returns-in_err-check_buffer c =
    let s = shape_in c.args.bytes.now in
    let sides = rw c.shape_in-shape.ensures at c.in_ok-check_mask.ensures in
    let buffer =
    rw (c.area-need.ensures, c.shape_in-shape.ensures) at c.in_err-check_buffer.ensures in
    values-left (goal.at.returns-in_err-check_buffer c).In_ok-check_mask_field
    (passed_first (mask_rules s.mask_rows s.mask_columns) s
    (buffer_rule (area s) c.args.room ∷ []) sides
    (handed_alone (buffer_rule (area s) c.args.room ∷ []) s buffer (search rules)))
