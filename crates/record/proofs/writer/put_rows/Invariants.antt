-- Before row i the fields of the first i rows are stored.
use Rattle.lists.specs.Joined.{concat_from}
use Rattle.lists.proofs.Stores.{Stored}
use Rattle.record_format.specs.Layout.{row_fields_at}
use Rattle.record_format.specs.Record.{row_field}
use Rattle.record.proofs.writer.put_rows.Given as goal

abbrev pub invariant-loop-i : goal.invariant-loop-i
invariant-loop-i l = Stored l.initial.bytes row_fields_at
    (concat_from (row_field l.columns l.readings) 0 l.i) l.bytes
