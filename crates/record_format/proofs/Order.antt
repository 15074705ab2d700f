-- The tests of the writer rise in number: SPECIFICATION, "Order of tests". Those of the reader go
-- field by field; none has the number 0.
use Rattle.std.proofs.Common.{ℕ, ◌<◌, ◌≡◌, List, ◌++◌, rules}
use Rattle.lists.specs.Joined.{concat_from}
use Rattle.lists.proofs.Members.{each_append}
use Rattle.lists.proofs.Joined.{each_of_concat_from}
use Rattle.refusal.specs.Outcome.{Rule, IsRising, IsNumbered}
use Rattle.refusal.specs.Outcome.Outcome.{refused}
use Rattle.refusal.proofs.Order.{LowestDue, refused-lowest}
use Rattle.shape.specs.declared.Shape.{Shape}
use Rattle.record_format.specs.Record.{record_length, write_rules, write_due}
use Rattle.record_format.specs.Reading.{rows_in, cycle_field_rules, size_field_rules}
use Rattle.record_format.specs.Reading.{mask_field_rules, row_field_rules, end_field_rules}
use Rattle.record_format.specs.Reading.{body_rules}
use Rattle.record_format.specs.Reading.{read_rules}

module _ (s : Shape) (readings : List ℕ) (room : ℕ) where
  -- the tests of the writer rise in number
  pub write_rising : IsRising (write_rules s readings room)
  write_rising = search rules

  -- none has the number 0
  pub write_numbered : IsNumbered (write_rules s readings room)
  write_numbered = search rules

  -- no test that is due has a lower number than the writer's refusal
  pub write_least : {n k : ℕ} → write_due s readings room ≡ refused n k
      → LowestDue n (write_rules s readings room)
  unfolding write_due
  write_least = refused-lowest (record_length s) (write_rules s readings room) write_rising

module _ (bytes : List ℕ) (room : ℕ) where
  -- the field of a row
  row_numbered : (i : ℕ) → IsNumbered (row_field_rules bytes i)
  unfolding row_field_rules
  row_numbered i = search rules

  -- the fields before the rows
  head_numbered : IsNumbered
      (cycle_field_rules bytes ++ (size_field_rules bytes ++ mask_field_rules bytes room))
  head_numbered = search rules

  -- the end field
  end_numbered : IsNumbered (end_field_rules bytes)
  end_numbered = search rules

  -- no test of the reader has the number 0
  pub read_numbered : IsNumbered (read_rules bytes room)
  unfolding read_rules
  read_numbered =
      let P : (Rule → Type 0) = λ r. 0 < r.number in
      let rows = each_of_concat_from (row_field_rules bytes) P 0 (rows_in bytes)
      (λ i h g. row_numbered i) in
      each_append P (cycle_field_rules bytes ++
      (size_field_rules bytes ++ mask_field_rules bytes room)) (body_rules bytes) head_numbered
      (each_append P (concat_from (row_field_rules bytes) 0 (rows_in bytes))
      (end_field_rules bytes) rows end_numbered)
