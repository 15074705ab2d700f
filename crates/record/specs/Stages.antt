-- The stages of the reader: the tests of the first three fields, what its functions rely on once
-- these have passed, and that clear tests are one fact, which a record that has passed them holds.
use Rattle.std.specs.Prelude.{ℕ, ◌+◌, ◌≤◌, false, List, [], ◌∷◌, ◌++◌, length}
use Rattle.std.specs.Coded.{×_prop, Unit-prop}
use Rattle.std.proofs.Math.Bool.{Bool-set}
use Rattle.refusal.specs.Limits.{most_rows, most_columns}
use Rattle.refusal.specs.Outcome.{Rule, IsClear}
use Rattle.record_format.specs.declared.Tag.TheVariants as tags
use Rattle.record_format.specs.Layout.{body_of, mask_field_at}
use Rattle.record_format.specs.Reading.{rows_in, columns_in, mask_due, field_rules}
use Rattle.record_format.specs.Reading.{cycle_field_rules, size_field_rules}

-- the first three fields, without the values of the third
abbrev pub head_rules : List ℕ → List Rule
head_rules bytes = cycle_field_rules bytes
    ++ (size_field_rules bytes ++ field_rules bytes mask_field_at tags.Mask (mask_due bytes))

-- the fields before the rows are there, and their sizes are good
pub record HasHead (bytes : List ℕ) : Type 0 where
  pub whole : body_of mask_field_at + mask_due bytes ≤ length bytes
  pub rows_fit : rows_in bytes ≤ most_rows
  pub columns_fit : columns_in bytes ≤ most_columns

-- that no test is due has one proof at most
pub IsClear-prop : (rs : List Rule) → IsProp (IsClear rs)
IsClear-prop [] = Unit-prop
IsClear-prop (r ∷ rs) = ×_prop (Bool-set r.due false) (IsClear-prop rs)
