-- The end field is asked first, then what follows it.
use Rattle.std.proofs.Common.{[], ◌∷◌, rules}
use Rattle.refusal.proofs.Outcome.{in_row}
use Rattle.record_format.specs.declared.Tag.TheVariants as tags
use Rattle.record_format.specs.Layout.{body_of}
use Rattle.record_format.specs.Reading.{end_at, field_rules, trailing_rule}
use Rattle.record.proofs.reader.body.Head.check_end.Goals as goal

pub returns-in_err-check_field : goal.returns-in_err-check_field
returns-in_err-check_field c =
    let b = c.args.self.now.bytes.now in
    in_row (field_rules b (end_at b) tags.End 0) (trailing_rule b (body_of (end_at b)) ∷ [])
    (rw (c.row_at-at.ensures, c.rows.ensures) at c.in_err-check_field.ensures) (search rules)

pub returns : goal.returns
returns c =
    let b = c.args.self.now.bytes.now in
    in_row (field_rules b (end_at b) tags.End 0) (trailing_rule b (body_of (end_at b)) ∷ [])
    (rw (c.row_at-at.ensures, c.rows.ensures) at c.in_ok-check_field.ensures)
    (rw (c.row_at-at.ensures, c.rows.ensures) at c.refuse_if.ensures)
