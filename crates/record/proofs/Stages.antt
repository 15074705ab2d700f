-- What the tests of the reader say when they are clear: of the first three fields, and with more
-- room.
use Rattle.std.proofs.Common.{ℕ, ◌≤◌, List, ◌++◌, arith, ltb-false}
use Rattle.refusal.specs.Limits.{most_rows, most_columns}
use Rattle.refusal.specs.Outcome.{IsClear}
use Rattle.refusal.proofs.Outcome.{clear_split}
use Rattle.shape.specs.Rules.{size_rules}
use Rattle.record_format.specs.Layout.{size_field_at, mask_field_at, numbers_length}
use Rattle.record_format.specs.declared.Tag.TheVariants as tags
use Rattle.record_format.specs.Reading.{rows_in, columns_in, mask_due, shape_in, field_rules}
use Rattle.record_format.specs.Reading.{cycle_field_rules, size_field_rules, mask_value_rules}
use Rattle.record_format.specs.Reading.{body_rules, read_rules}
use Rattle.record_format.proofs.FieldRead.{field_clear}
use Rattle.record_format.proofs.Readable.{readable, clear_readable}
use Rattle.record.specs.Stages.{head_rules, HasHead}

module _ (b : List ℕ) where
  -- these fields are there, and their sizes are good
  pub headed : IsClear (head_rules b) → HasHead b
  headed k =
      let mask = field_rules b mask_field_at tags.Mask (mask_due b) in
      let later = (clear_split (cycle_field_rules b) (size_field_rules b ++ mask) k).1 in
      let both = clear_split (size_field_rules b) mask later in
      let values = (clear_split (field_rules b size_field_at tags.Size (numbers_length 2))
      (size_rules (rows_in b) (columns_in b)) both.0).1 in
      record {
        whole = omega (arith, (field_clear b mask_field_at tags.Mask (mask_due b) both.1).whole);
        rows_fit = ltb-false most_rows (rows_in b) values.1.0;
        columns_fit = ltb-false most_columns (columns_in b) values.1.1.1.0;
      }

  -- and so they are where all tests are clear
  pub headed_read : (room : ℕ) → IsClear (read_rules b room) → HasHead b
  unfolding read_rules
  headed_read room k =
      headed (clear_split (head_rules b) (mask_value_rules (shape_in b) room ++ body_rules b) k).0

  -- clear tests are so with more room
  pub clear_wider : (room more : ℕ) → room ≤ more → IsClear (read_rules b room)
      → IsClear (read_rules b more)
  clear_wider room more h k =
      let r = readable b room k in
      clear_readable b more (record {
        cycle = r.cycle;
        size = r.size;
        mask = r.mask;
        shape = r.shape;
        buffer = omega (arith, r.buffer, h);
        rows = r.rows;
        end = r.end;
        last = r.last;
      })
