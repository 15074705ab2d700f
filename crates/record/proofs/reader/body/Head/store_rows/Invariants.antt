-- Before row i the readings of the first i rows are stored.
use Rattle.lists.specs.Joined.{concat_from}
use Rattle.lists.proofs.Stores.{Stored}
use Rattle.record_format.specs.Reading.{row_in}
use Rattle.record.proofs.reader.body.Head.store_rows.Given as goal

abbrev pub invariant-loop-i : goal.invariant-loop-i
invariant-loop-i l =
    Stored l.initial.readings 0 (concat_from (row_in l.self.bytes.now) 0 l.i) l.readings
