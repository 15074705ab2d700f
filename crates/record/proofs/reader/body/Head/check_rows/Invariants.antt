-- The tests of all rows come out as those from row i on.
use Rattle.std.proofs.Common.{◌≡◌, ◌-◌}
use Rattle.lists.specs.Joined.{concat_from}
use Rattle.refusal.proofs.Outcome.{outcome_of}
use Rattle.record_format.specs.Reading.{rows_in, row_field_rules}
use Rattle.record.proofs.reader.body.Head.check_rows.Given as goal

abbrev pub invariant-loop-i : goal.invariant-loop-i
invariant-loop-i l =
    let b = l.self.bytes.now in
    outcome_of (concat_from (row_field_rules b) 0 (rows_in b))
    ≡ outcome_of (concat_from (row_field_rules b) l.i (rows_in b - l.i))
