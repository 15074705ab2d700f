-- The mask of a record: SPECIFICATION, "Reader". An empty field means 1 row by 7 columns; else the
-- field states it.
use Rattle.std.proofs.Common.{ℕ, ◌≡◌, refl, List}
use Rattle.refusal.specs.Outcome.{IsClear}
use Rattle.refusal.specs.Outcome.Outcome.{accepted}
use Rattle.refusal.proofs.Outcome.{accepted_value}
use Rattle.shape.specs.declared.Shape.{Shape}
use Rattle.shape.specs.Rules.{mask_rules}
use Rattle.record_format.specs.Layout.{mask_rows_at, mask_columns_at}
use Rattle.record_format.specs.Fields.{number_at}
use Rattle.record_format.specs.Reading.{default_mask_rows, default_mask_columns, stated_mask_length}
use Rattle.record_format.specs.Reading.{mask_rows_in, mask_columns_in, shape_in, read_rules}
use Rattle.record_format.specs.Reading.{read_due}
use Rattle.record_format.proofs.FieldRead.{side_empty, side_given}

-- an empty field is never refused by 3
pub empty_clear : (bytes : List ℕ) → stated_mask_length bytes ≡ 0
    → IsClear (mask_rules (mask_rows_in bytes) (mask_columns_in bytes))
empty_clear bytes e =
    rw (
      side_empty bytes e mask_rows_at default_mask_rows,
      side_empty bytes e mask_columns_at default_mask_columns,
    ) (refl, (refl, (refl, (refl, tt))))

-- A record that is accepted, with the shape s.
module _ (bytes : List ℕ) (room : ℕ) {s : Shape} (read : read_due bytes room ≡ accepted s) where
  -- the shape that the reader answers is the one in the bytes
  shape-is : s ≡ shape_in bytes
  unfolding read_due
  shape-is = accepted_value (shape_in bytes) (read_rules bytes room) s read

  -- with an empty field its mask is 1 by 7
  pub empty_mask : stated_mask_length bytes ≡ 0 → (s.mask_rows ≡ 1) × (s.mask_columns ≡ 7)
  empty_mask e = rw shape-is (
    side_empty bytes e mask_rows_at default_mask_rows,
    side_empty bytes e mask_columns_at default_mask_columns,
  )

  -- and else what the field states
  pub stated_mask : (stated_mask_length bytes ≡ 0 → ⊥) → (s.mask_rows
      ≡ number_at bytes mask_rows_at) × (s.mask_columns ≡ number_at bytes mask_columns_at)
  stated_mask e = rw shape-is (
    side_given bytes e mask_rows_at default_mask_rows,
    side_given bytes e mask_columns_at default_mask_columns,
  )
