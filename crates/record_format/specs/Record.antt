-- The bytes of a record, and what the writer answers: SPECIFICATION, "Record" and "Writer".
use Rattle.std.specs.Prelude.{ℕ, ◌+◌, ◌*◌, List, [], ◌∷◌, ◌++◌, length}
use Rattle.lists.specs.Joined.{concat_from}
use Rattle.refusal.specs.Limits.{longest_cycle}
use Rattle.refusal.specs.Outcome.{Outcome, Rule, first_due}
use Rattle.cycle.specs.Calls.{readings_rule}
use Rattle.shape.specs.declared.Shape.{Shape}
use Rattle.shape.specs.Rules.{shape_rules, area, row_of, input_rule, buffer_rule}
use Rattle.record_format.specs.Layout.{head_length, field_length, row_fields_at}
use Rattle.record_format.specs.declared.Tag.TheVariants as tags
use Rattle.record_format.specs.Fields.{numbers, field}

-- field 04 of row i: its n readings
abbrev pub row_field : ℕ → List ℕ → ℕ → List ℕ
row_field n readings i = field tags.Row (numbers (row_of n readings i))

-- the record of an image: fields 01, 02 and 03, a field 04 for each row, and FF
unfoldable pub record_bytes : Shape → List ℕ → List ℕ
record_bytes s readings =
    field tags.Cycle (numbers (s.cycle ∷ []))
    ++ (field tags.Size (numbers (s.rows ∷ s.columns ∷ []))
    ++ (field tags.Mask (numbers (s.mask_rows ∷ s.mask_columns ∷ []))
    ++ (concat_from (row_field s.columns readings) 0 s.rows
    ++ field tags.End [])))

-- its length in bytes
unfoldable pub record_length : Shape → ℕ
record_length s = row_fields_at + s.rows * field_length s.columns + head_length

-- tests 6, 7 and 9, with room for so many bytes
abbrev pub call_rules : Shape → List ℕ → ℕ → List Rule
call_rules s readings room = input_rule (area s) (length readings)
    ∷ buffer_rule (record_length s) room ∷ readings_rule s.cycle readings ∷ []

-- the tests of the writer: 1 to 3 on the shape, then 6, 7 and 9
abbrev pub write_rules : Shape → List ℕ → ℕ → List Rule
write_rules s readings room = shape_rules longest_cycle s ++ call_rules s readings room

-- what the writer answers, with room for so many bytes
unfoldable pub write_due : Shape → List ℕ → ℕ → Outcome ℕ
write_due s readings room = first_due (write_rules s readings room) (record_length s)
