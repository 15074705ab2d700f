-- The tests of the body follow those of the head. A record that passes both has passed all tests of
-- the reader.
use Rattle.std.proofs.Common.{◌≡◌, ℕ, List, ◌++◌, refl, sym, ap, ◌∙◌, rules}
use Rattle.refusal.specs.Outcome.{Rule, IsClear, first_due}
use Rattle.refusal.specs.Outcome.Outcome.{accepted}
use Rattle.refusal.proofs.Outcome.{accepted_clear, accepted_value, clear_split, clear_join}
use Rattle.refusal.proofs.Outcome.{passed_clear, due-refused}
use Rattle.refusal.proofs.Outcome.{refused-due, after_clear, handed_on, handed_alone, passed_alone}
use Rattle.record_format.specs.Reading.{shape_in, mask_value_rules, body_rules, read_rules}
use Rattle.record_format.specs.Reading.{read_due}
use Rattle.record.specs.Stages.{head_rules}
use Rattle.record.proofs.Stages.{headed}
use Rattle.record.proofs.Parsed.{handed_shape}
use Rattle.record.proofs.parse.Goals as goal
use Rattle.record.proofs.parse.Goals.{In_ok-shape}

-- the tests of the head
abbrev head : List ℕ → ℕ → List Rule
head b room = head_rules b ++ mask_value_rules (shape_in b) room

-- the tests of the head are clear
clear : (c : In_ok-shape) → IsClear (head c.args.bytes.now c.args.room)
clear c = let b = c.args.bytes.now in
    accepted_clear (shape_in b) (head b c.args.room) _ (sym c.in_ok-shape.ensures)

-- and the shape is the one in the bytes
shape_is : (c : In_ok-shape) → c.in_ok-shape.shape ≡ shape_in c.args.bytes.now
shape_is c = let b = c.args.bytes.now in
    accepted_value (shape_in b) (head b c.args.room) _ (sym c.in_ok-shape.ensures)

-- the tests of the body say the rest
body-left : (c : In_ok-shape) → let b =
    c.args.bytes.now in read_due b c.args.room ≡ first_due (body_rules b) (shape_in b)
unfolding read_due read_rules
body-left c = let b =
    c.args.bytes.now in after_clear (shape_in b) (head b c.args.room) (body_rules b) (clear c)

pub invariant_of-check_body : goal.invariant_of-check_body
invariant_of-check_body c =
    let b = c.args.bytes.now in
    record {
      shape_is = shape_is c;
      headed = headed b
          (clear_split (head_rules b) (mask_value_rules (shape_in b) c.args.room) (clear c)).0;
    }

pub invariant_of-result : goal.invariant_of-result
unfolding read_rules
invariant_of-result c =
    let b = c.args.bytes.now in
    let at = (goal.at.invariant_of-result c).In_ok-shape in
    record {
      shape_is = shape_is at;
      tested = clear_join (head b c.args.room) (body_rules b) (clear at)
          (passed_clear (body_rules b) c.in_ok-check_body.ensures);
    }

pub returns-in_err-shape-clause-answer : goal.returns-in_err-shape-clause-answer
unfolding read_due read_rules
returns-in_err-shape-clause-answer c =
    let b = c.args.bytes.now in
    let s = shape_in b in
    let head-refused = sym
    (due-refused tt (refused-due s (head b c.args.room) _ _ (sym c.in_err-shape.ensures))) in
    handed_shape (handed_on (head b c.args.room) s (body_rules b) head-refused refl) (search rules)

pub returns-in_err-check_body-clause-answer : goal.returns-in_err-check_body-clause-answer
returns-in_err-check_body-clause-answer c =
    let b = c.args.bytes.now in
    let left = sym (body-left (goal.at.returns-in_err-check_body-clause-answer c).In_ok-shape) in
    handed_shape
    (handed_alone (body_rules b) (shape_in b) c.in_err-check_body.ensures refl ∙ left)
    (search rules)

pub returns-clause-answer : goal.returns-clause-answer
returns-clause-answer c =
    let b = c.args.bytes.now in
    ap accepted (shape_is (goal.at.returns-clause-answer c).In_ok-shape)
    ∙ passed_alone (body_rules b) (shape_in b) c.in_ok-check_body.ensures
    ∙ sym (body-left (goal.at.returns-clause-answer c).In_ok-shape)
