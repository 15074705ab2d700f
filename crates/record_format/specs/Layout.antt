-- Where the fields of a record and their numbers stand, in bytes from its start:
-- SPECIFICATION, "Fields". src/layout.rt has the same in code.
use Rattle.std.specs.Prelude.{ℕ, ◌+◌, ◌*◌}

-- bytes of a tag
abbrev pub tag_length : ℕ
tag_length = 1

-- bytes of a number
abbrev pub number_length : ℕ
number_length = 2

-- bytes of a field's head: its tag, and the length of its body
abbrev pub head_length : ℕ
head_length = tag_length + number_length

-- where the length of a field stands, by the offset of the field
abbrev pub length_of : ℕ → ℕ
length_of at = at + tag_length

-- where its body stands
abbrev pub body_of : ℕ → ℕ
body_of at = at + head_length

-- field 01
abbrev pub cycle_field_at : ℕ
cycle_field_at = 0

-- the cycle
abbrev pub cycle_at : ℕ
cycle_at = body_of cycle_field_at

-- field 02
abbrev pub size_field_at : ℕ
size_field_at = cycle_at + number_length

-- the number of rows
abbrev pub rows_at : ℕ
rows_at = body_of size_field_at

-- the number of columns
abbrev pub columns_at : ℕ
columns_at = rows_at + number_length

-- field 03
abbrev pub mask_field_at : ℕ
mask_field_at = columns_at + number_length

-- the rows of the mask
abbrev pub mask_rows_at : ℕ
mask_rows_at = body_of mask_field_at

-- the columns of the mask
abbrev pub mask_columns_at : ℕ
mask_columns_at = mask_rows_at + number_length

-- the first field 04, where field 03 is not empty, as in every record that was written
abbrev pub row_fields_at : ℕ
row_fields_at = mask_columns_at + number_length

-- bytes of n numbers
abbrev pub numbers_length : ℕ → ℕ
numbers_length n = number_length * n

-- bytes of a field of n numbers
abbrev pub field_length : ℕ → ℕ
field_length n = head_length + numbers_length n
