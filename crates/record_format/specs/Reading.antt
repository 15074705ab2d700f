-- What the reader answers on any bytes: SPECIFICATION, "Reader". Each field is tested by itself and
-- then by its values. A test is reached only if none before it is due, so that a number read past
-- the end, where bytes are 0, never counts.
use Rattle.std.specs.Prelude.{ℕ, ◌+◌, ◌-◌, ◌*◌, not, if◌then◌else◌, List, [], ◌∷◌, ◌++◌, nat_lt}
use Rattle.std.specs.Prelude.{◌==◌, length, slice_index}
use Rattle.lists.specs.Joined.{concat_from}
use Rattle.refusal.specs.Limits.{longest_cycle}
use Rattle.refusal.specs.Outcome.{Outcome, Rule, rule, first_due}
use Rattle.cycle.specs.Calls.{cycle_rules, readings_rule}
use Rattle.shape.specs.declared.Shape.{Shape}
use Rattle.shape.specs.Rules.{size_rules, mask_rules, area, buffer_rule}
use Rattle.record_format.specs.Layout.{head_length, numbers_length, length_of, body_of}
use Rattle.record_format.specs.Layout.{field_length}
use Rattle.record_format.specs.Layout.{cycle_field_at, cycle_at, size_field_at, rows_at, columns_at}
use Rattle.record_format.specs.Layout.{mask_field_at, mask_rows_at, mask_columns_at}
use Rattle.record_format.specs.declared.Tag.{Tag}
use Rattle.record_format.specs.declared.Tag.TheVariants as tags
use Rattle.record_format.specs.Fields.{tag_byte, number_at, numbers_at}

-- the rows of the default mask, which an empty field 03 means
abbrev pub default_mask_rows : ℕ
default_mask_rows = 1

-- the columns of the default mask
abbrev pub default_mask_columns : ℕ
default_mask_columns = 7

-- the cycle that the bytes hold, in ticks
abbrev pub cycle_in : List ℕ → ℕ
cycle_in bytes = number_at bytes cycle_at

-- the rows of the image
abbrev pub rows_in : List ℕ → ℕ
rows_in bytes = number_at bytes rows_at

-- the columns of the image
abbrev pub columns_in : List ℕ → ℕ
columns_in bytes = number_at bytes columns_at

-- the length that field 03 states, in bytes
abbrev pub stated_mask_length : List ℕ → ℕ
stated_mask_length bytes = number_at bytes (length_of mask_field_at)

-- the length that is due there: 0 where it states 0, and else that of two numbers
unfoldable pub mask_due : List ℕ → ℕ
mask_due bytes = (if stated_mask_length bytes == 0 then 0 else numbers_length 2)

-- a side of the mask: the number at an offset, or the default if field 03 is empty
unfoldable pub mask_side_in : List ℕ → ℕ → ℕ → ℕ
mask_side_in bytes at default =
    (if stated_mask_length bytes == 0 then default else number_at bytes at)

-- the rows of the mask
abbrev pub mask_rows_in : List ℕ → ℕ
mask_rows_in bytes = mask_side_in bytes mask_rows_at default_mask_rows

-- the columns of the mask
abbrev pub mask_columns_in : List ℕ → ℕ
mask_columns_in bytes = mask_side_in bytes mask_columns_at default_mask_columns

-- the five numbers
abbrev pub shape_in : List ℕ → Shape
shape_in bytes = record {
  cycle = cycle_in bytes;
  rows = rows_in bytes;
  columns = columns_in bytes;
  mask_rows = mask_rows_in bytes;
  mask_columns = mask_columns_in bytes;
}

-- the offset of the field of row i; that of the row behind the last is the end field's
unfoldable pub row_at : List ℕ → ℕ → ℕ
row_at bytes i = body_of mask_field_at + mask_due bytes + i * field_length (columns_in bytes)

-- the offset of the end field
abbrev pub end_at : List ℕ → ℕ
end_at bytes = row_at bytes (rows_in bytes)

-- the readings of row i
unfoldable pub row_in : List ℕ → ℕ → List ℕ
row_in bytes i = numbers_at bytes (body_of (row_at bytes i)) (columns_in bytes)

-- the readings of all rows
unfoldable pub image_in : List ℕ → List ℕ
image_in bytes = concat_from (row_in bytes) 0 (rows_in bytes)

-- the tests of a field at an offset, where a tag and a length are due: 10 (fewer than three bytes
-- are left), 11, 12, 10 (the body is not all there), each at the offset
abbrev pub field_rules : List ℕ → ℕ → Tag → ℕ → List Rule
field_rules bytes at tag due =
    rule (nat_lt (length bytes - at) head_length) 10 at
    ∷ rule (not (slice_index bytes at == tag_byte tag)) 11 at
    ∷ rule (not (number_at bytes (length_of at) == due)) 12 at
    ∷ rule (nat_lt (length bytes - body_of at) due) 10 at
    ∷ []

-- field 01, and then the cycle (1)
abbrev pub cycle_field_rules : List ℕ → List Rule
cycle_field_rules bytes = field_rules bytes cycle_field_at tags.Cycle (numbers_length 1)
    ++ cycle_rules longest_cycle (cycle_in bytes)

-- field 02, and then the sizes (2)
abbrev pub size_field_rules : List ℕ → List Rule
size_field_rules bytes = field_rules bytes size_field_at tags.Size (numbers_length 2)
    ++ size_rules (rows_in bytes) (columns_in bytes)

-- the values of field 03: the mask (3), and then the room for all readings (7)
abbrev pub mask_value_rules : Shape → ℕ → List Rule
mask_value_rules s room = mask_rules s.mask_rows s.mask_columns ++ (buffer_rule (area s) room ∷ [])

-- field 03, and then its values
abbrev pub mask_field_rules : List ℕ → ℕ → List Rule
mask_field_rules bytes room = field_rules bytes mask_field_at tags.Mask (mask_due bytes)
    ++ mask_value_rules (shape_in bytes) room

-- a test of a row, its place counted from the start of the image
abbrev pub placed_after : ℕ → Rule → Rule
placed_after start r = rule r.due r.number (start + r.place)

-- field 04 of row i, and then its readings (9)
unfoldable pub row_field_rules : List ℕ → ℕ → List Rule
row_field_rules bytes i =
    field_rules bytes (row_at bytes i) tags.Row (numbers_length (columns_in bytes))
    ++ (placed_after (i * columns_in bytes) (readings_rule (cycle_in bytes) (row_in bytes i)) ∷ [])

-- bytes behind the end field (13)
abbrev pub trailing_rule : List ℕ → ℕ → Rule
trailing_rule bytes end = rule (nat_lt end (length bytes)) 13 end

-- field FF, and then what follows it
abbrev pub end_field_rules : List ℕ → List Rule
end_field_rules bytes = field_rules bytes (end_at bytes) tags.End 0
    ++ (trailing_rule bytes (body_of (end_at bytes)) ∷ [])

-- the fields of all rows, and then FF
abbrev pub body_rules : List ℕ → List Rule
body_rules bytes = concat_from (row_field_rules bytes) 0 (rows_in bytes) ++ end_field_rules bytes

-- all fields in order, with room for so many readings
unfoldable pub read_rules : List ℕ → ℕ → List Rule
read_rules bytes room = cycle_field_rules bytes
    ++ (size_field_rules bytes ++ (mask_field_rules bytes room ++ body_rules bytes))

-- what the reader answers
unfoldable pub read_due : List ℕ → ℕ → Outcome Shape
read_due bytes room = first_due (read_rules bytes room) (shape_in bytes)
