-- The tests of the end field follow those of the rows.
use Rattle.std.proofs.Common.{rules}
use Rattle.lists.specs.Joined.{concat_from}
use Rattle.refusal.proofs.Outcome.{handed_on, passed_first}
use Rattle.record_format.specs.Reading.{rows_in, row_field_rules, end_field_rules}
use Rattle.record.proofs.reader.body.Head.check_body.Goals as goal

pub returns-in_err-check_rows : goal.returns-in_err-check_rows
returns-in_err-check_rows c =
    let b = c.args.self.now.bytes.now in
    handed_on (concat_from (row_field_rules b) 0 (rows_in b)) tt
    (end_field_rules b) c.in_err-check_rows.ensures (search rules)

pub returns : goal.returns
returns c =
    let b = c.args.self.now.bytes.now in
    passed_first (concat_from (row_field_rules b) 0 (rows_in b)) tt
    (end_field_rules b) c.in_ok-check_rows.ensures c.check_end.ensures
