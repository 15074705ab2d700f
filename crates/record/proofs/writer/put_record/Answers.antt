-- The fields are stored one behind the other, so that all of them are one store of the record's
-- bytes.
use Rattle.std.proofs.Common.{◌+◌, ◌*◌, ◌≤◌, [], ◌∷◌, length, refl, arith}
use Rattle.lists.specs.Joined.{concat_from}
use Rattle.lists.proofs.Stores.{Stored, stored, stored_more}
use Rattle.record_format.specs.declared.Tag.TheVariants as tags
use Rattle.record_format.specs.Layout.{head_length, cycle_field_at, size_field_at, mask_field_at}
use Rattle.record_format.specs.Layout.{row_fields_at, field_length}
use Rattle.record_format.specs.Fields.{number, numbers, field}
use Rattle.record_format.specs.Record.{row_field, record_bytes, record_length}
use Rattle.record_format.proofs.Fields.{length_row_fields}
use Rattle.record_format.proofs.Writable.{Writable, writable}
use Rattle.record.proofs.writer.put_record.Goals as goal
use Rattle.record.proofs.writer.put_record.Goals.{Start}

-- what the tests say
known : (c : Start) → let a = c.args in Writable a.shape a.readings.now (length a.bytes.now)
known c = let a = c.args in writable a.shape a.readings.now (length a.bytes.now) c.requires

-- the record ends within the bytes
room : (c : Start) → let a = c.args in
    row_fields_at + a.shape.rows * field_length a.shape.columns + head_length ≤ length a.bytes.now
unfolding record_length
room c = (known c).bytes

pub put_field-requires-clause-room : goal.put_field-requires-clause-room
put_field-requires-clause-room c =
    omega (arith, room (goal.at.put_field-requires-clause-room c).Start)

pub put_field-requires-2-clause-room : goal.put_field-requires-2-clause-room
put_field-requires-2-clause-room c =
    omega (arith, room (goal.at.put_field-requires-2-clause-room c).Start)

pub put_field-requires-3-clause-room : goal.put_field-requires-3-clause-room
put_field-requires-3-clause-room c =
    omega (arith, room (goal.at.put_field-requires-3-clause-room c).Start)

pub put_rows-requires-clause-room : goal.put_rows-requires-clause-room
put_rows-requires-clause-room c =
    omega (arith, room (goal.at.put_rows-requires-clause-room c).Start)

pub put_field-requires-4-clause-room : goal.put_field-requires-4-clause-room
put_field-requires-4-clause-room c =
    omega (arith, c.row_at-end.ensures, room (goal.at.put_field-requires-4-clause-room c).Start)

pub returns-clause-length : goal.returns-clause-length
unfolding record_length
returns-clause-length c = omega (arith, c.row_at-end.ensures)

pub returns-clause-stored : goal.returns-clause-stored
unfolding record_bytes field numbers number
returns-clause-stored c =
    let s = c.args.shape in
    let readings = c.args.readings.now in
    let first : Stored c.args.bytes.now cycle_field_at
    (field tags.Cycle (numbers (s.cycle ∷ []))) _ = stored c.put_field.ensures in
    let size = stored_more first size_field_at
    (field tags.Size (numbers (s.rows ∷ s.columns ∷ []))) refl c.put_field-2.ensures in
    let mask = stored_more size mask_field_at (field tags.Mask
    (numbers (s.mask_rows ∷ s.mask_columns ∷ []))) refl c.put_field-3.ensures in
    let rows = stored_more mask row_fields_at
    (concat_from (row_field s.columns readings) 0 s.rows) refl c.put_rows.ensures in
    let end = length_row_fields s.columns readings s.rows s.rows (omega arith)
    (known (goal.at.returns-clause-stored c).Start).input in
    (stored_more rows c.row_at-end.result (field tags.End [])
    (omega (arith, c.row_at-end.ensures, end)) c.put_field-4.ensures).is
