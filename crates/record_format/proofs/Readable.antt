-- What the reader's tests say of bytes when they are clear, and back. The list of tests is split
-- into those of each field, and these into the four of the field and those of its values.
use Rattle.std.proofs.Common.{ℕ, ◌+◌, ◌*◌, ◌≤◌, ◌<◌, ◌≡◌, true, false, List, [], ◌∷◌, ◌++◌, arith}
use Rattle.std.proofs.Common.{le-ltb, ltb-false, length}
use Rattle.lists.specs.First.{first_bad}
use Rattle.lists.specs.Joined.{concat_from}
use Rattle.lists.proofs.First.{all_good, good_all}
use Rattle.lists.proofs.Joined.{length-concat_from, each_of_concat_from, each_in_concat_from}
use Rattle.refusal.specs.Limits.{longest_cycle}
use Rattle.refusal.specs.Outcome.{Rule, IsClear}
use Rattle.refusal.proofs.Outcome.{clear_join, clear_split}
use Rattle.cycle.specs.Calls.{cycle_rules, readings_rule}
use Rattle.cycle.specs.Silence.{is_reading}
use Rattle.shape.specs.Rules.{size_rules, mask_rules, shape_rules, area, buffer_rule}
use Rattle.record_format.specs.Layout.{body_of, cycle_field_at, size_field_at, mask_field_at}
use Rattle.record_format.specs.Layout.{numbers_length, field_length}
use Rattle.record_format.specs.declared.Tag.TheVariants as tags
use Rattle.record_format.specs.Reading.{cycle_in, rows_in, columns_in, mask_due, shape_in, row_at}
use Rattle.record_format.specs.Reading.{end_at, row_in, image_in, placed_after, field_rules}
use Rattle.record_format.specs.Reading.{cycle_field_rules, size_field_rules, mask_value_rules}
use Rattle.record_format.specs.Reading.{mask_field_rules, row_field_rules, trailing_rule}
use Rattle.record_format.specs.Reading.{end_field_rules, body_rules, read_rules}
use Rattle.record_format.proofs.FieldRead.{FieldAt, field_clear, clear_field, length-numbers_at}

-- a test that is not due
abbrev Quiet : Rule → Type 0
Quiet r = r.due ≡ false

-- row i stands at its offset, and its readings are good
pub record RowIn (bytes : List ℕ) (i : ℕ) : Type 0 where
  pub field : FieldAt bytes (row_at bytes i) tags.Row (numbers_length (columns_in bytes))
  pub good : length (row_in bytes i) ≤ first_bad (is_reading (cycle_in bytes)) (row_in bytes i)

module _ (bytes : List ℕ) where
  -- a row has as many readings as the image has columns
  pub length-row_in : (i : ℕ) → length (row_in bytes i) ≡ columns_in bytes
  unfolding row_in
  length-row_in i = length-numbers_at bytes (body_of (row_at bytes i)) (columns_in bytes)

  -- and the image has all of them
  pub length_image : length (image_in bytes) ≡ area (shape_in bytes)
  unfolding image_in
  length_image = length-concat_from (row_in bytes) (columns_in bytes) 0 (rows_in bytes)
      (λ i h g. length-row_in i)

  -- the next row stands one field further
  pub row_next : (i : ℕ) → row_at bytes (i + 1) ≡ row_at bytes i + field_length (columns_in bytes)
  unfolding row_at
  row_next i = omega arith

  -- where the tests of row i are clear, it is there
  pub row_clear : (i : ℕ) → IsClear (row_field_rules bytes i) → RowIn bytes i
  unfolding row_field_rules
  row_clear i k =
      record {
        field = field_clear bytes (row_at bytes i) tags.Row (numbers_length (columns_in bytes))
            (k.0, (k.1.0, (k.1.1.0, (k.1.1.1.0, tt))));
        good = ltb-false (first_bad (is_reading (cycle_in bytes)) (row_in bytes i))
            (length (row_in bytes i)) k.1.1.1.1.0;
      }

  -- where row i is there, its tests are clear
  pub clear_row : (i : ℕ) → RowIn bytes i → IsClear (row_field_rules bytes i)
  unfolding row_field_rules
  clear_row i r =
      clear_join (field_rules bytes (row_at bytes i) tags.Row (numbers_length (columns_in bytes)))
      (placed_after (i * columns_in bytes) (readings_rule (cycle_in bytes) (row_in bytes i)) ∷ [])
      (clear_field bytes (row_at bytes i) tags.Row (numbers_length (columns_in bytes)) r.field) (
        le-ltb (first_bad (is_reading (cycle_in bytes)) (row_in bytes i))
            (length (row_in bytes i)) r.good,
        tt,
      )

-- what the tests of the reader say when they are clear: each field is there, and its values are
-- good
pub record Readable (bytes : List ℕ) (room : ℕ) : Type 0 where
  pub cycle : FieldAt bytes cycle_field_at tags.Cycle (numbers_length 1)
  pub size : FieldAt bytes size_field_at tags.Size (numbers_length 2)
  pub mask : FieldAt bytes mask_field_at tags.Mask (mask_due bytes)
  pub shape : IsClear (shape_rules longest_cycle (shape_in bytes))
  pub buffer : area (shape_in bytes) ≤ room
  pub rows : (i : ℕ) → i < rows_in bytes → RowIn bytes i
  pub end : FieldAt bytes (end_at bytes) tags.End 0
  pub last : length bytes ≤ body_of (end_at bytes)

module _ (bytes : List ℕ) (room : ℕ) where
  -- clear tests say so
  pub readable : IsClear (read_rules bytes room) → Readable bytes room
  unfolding read_rules
  readable k =
      let one = clear_split (cycle_field_rules bytes)
      (size_field_rules bytes ++ (mask_field_rules bytes room ++ body_rules bytes)) k in
      let two = clear_split (size_field_rules bytes)
      (mask_field_rules bytes room ++ body_rules bytes) one.1 in
      let three = clear_split (mask_field_rules bytes room) (body_rules bytes) two.1 in
      let four = clear_split (concat_from (row_field_rules bytes) 0 (rows_in bytes))
      (end_field_rules bytes) three.1 in
      let cycle = clear_split (field_rules bytes cycle_field_at tags.Cycle (numbers_length 1))
      (cycle_rules longest_cycle (cycle_in bytes)) one.0 in
      let size = clear_split (field_rules bytes size_field_at tags.Size (numbers_length 2))
      (size_rules (rows_in bytes) (columns_in bytes)) two.0 in
      let mask = clear_split (field_rules bytes mask_field_at tags.Mask (mask_due bytes))
      (mask_value_rules (shape_in bytes) room) three.0 in
      let s = shape_in bytes in
      let sides = mask_rules s.mask_rows s.mask_columns in
      let buffer : List Rule = buffer_rule (area s) room ∷ [] in
      let trailing : List Rule = trailing_rule bytes (body_of (end_at bytes)) ∷ [] in
      let values = clear_split sides buffer mask.1 in
      let end = clear_split (field_rules bytes (end_at bytes) tags.End 0) trailing four.1 in
      record {
        cycle = field_clear bytes cycle_field_at tags.Cycle (numbers_length 1) cycle.0;
        size = field_clear bytes size_field_at tags.Size (numbers_length 2) size.0;
        mask = field_clear bytes mask_field_at tags.Mask (mask_due bytes) mask.0;
        shape = clear_join (cycle_rules longest_cycle s.cycle)
            (size_rules s.rows s.columns ++ sides) cycle.1
            (clear_join (size_rules s.rows s.columns) sides size.1 values.0);
        buffer = ltb-false room (area s) values.1.0;
        rows = λ i h. row_clear bytes i (each_in_concat_from (row_field_rules bytes) Quiet 0
            (rows_in bytes) four.0 i (omega arith) (omega arith));
        end = field_clear bytes (end_at bytes) tags.End 0 end.0;
        last = ltb-false (body_of (end_at bytes)) (length bytes) end.1.0;
      }

  -- where it holds, the tests are clear
  pub clear_readable : Readable bytes room → IsClear (read_rules bytes room)
  unfolding read_rules
  clear_readable r =
      let s = shape_in bytes in
      let sides = mask_rules s.mask_rows s.mask_columns in
      let one = clear_split (cycle_rules longest_cycle s.cycle)
      (size_rules s.rows s.columns ++ sides) r.shape in
      let two = clear_split (size_rules s.rows s.columns) sides one.1 in
      let buffer : List Rule = buffer_rule (area s) room ∷ [] in
      let trailing : List Rule = trailing_rule bytes (body_of (end_at bytes)) ∷ [] in
      let rows = each_of_concat_from (row_field_rules bytes) Quiet 0 (rows_in bytes)
      (λ k h g. clear_row bytes k (r.rows k (omega arith))) in
      clear_join (cycle_field_rules bytes)
      (size_field_rules bytes ++ (mask_field_rules bytes room ++ body_rules bytes))
      (clear_join (field_rules bytes cycle_field_at tags.Cycle (numbers_length 1))
      (cycle_rules longest_cycle s.cycle)
      (clear_field bytes cycle_field_at tags.Cycle (numbers_length 1) r.cycle) one.0)
      (clear_join (size_field_rules bytes) (mask_field_rules bytes room ++ body_rules bytes)
      (clear_join (field_rules bytes size_field_at tags.Size (numbers_length 2))
      (size_rules s.rows s.columns)
      (clear_field bytes size_field_at tags.Size (numbers_length 2) r.size) two.0)
      (clear_join (mask_field_rules bytes room) (body_rules bytes)
      (clear_join (field_rules bytes mask_field_at tags.Mask (mask_due bytes))
      (mask_value_rules s room)
      (clear_field bytes mask_field_at tags.Mask (mask_due bytes) r.mask)
      (clear_join sides buffer two.1 (le-ltb room (area s) r.buffer, tt)))
      (clear_join (concat_from (row_field_rules bytes) 0 (rows_in bytes))
      (end_field_rules bytes) rows
      (clear_join (field_rules bytes (end_at bytes) tags.End 0) trailing
      (clear_field bytes (end_at bytes) tags.End 0 r.end)
      (le-ltb (body_of (end_at bytes)) (length bytes) r.last, tt)))))

  -- all readings of such a record are good
  pub image_good : Readable bytes room
      → length (image_in bytes) ≤ first_bad (is_reading (cycle_in bytes)) (image_in bytes)
  unfolding image_in
  image_good r =
      let P : (ℕ → Type 0) = λ y. is_reading (cycle_in bytes) y ≡ true in
      good_all (is_reading (cycle_in bytes)) (concat_from (row_in bytes) 0 (rows_in bytes))
      (each_of_concat_from (row_in bytes) P 0 (rows_in bytes) (λ i g h. all_good
      (is_reading (cycle_in bytes)) (row_in bytes i) (r.rows i (omega arith)).good))
