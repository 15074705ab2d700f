-- A record that was written reads back: its bytes hold the shape and the readings. Field by field:
-- each stands where the layout says, so that its tag, its length and its numbers are read as they
-- were written. SPECIFICATION, "Guarantees".
use Rattle.std.proofs.Common.{ℕ, ◌+◌, ◌*◌, ◌≤◌, ◌<◌, ◌≡◌, refl, ap, sym, subst, ◌∙◌, true, List, []}
use Rattle.std.proofs.Common.{◌∷◌, ◌++◌, arith, zero-add, lt-ltb, length, take_all}
use Rattle.lists.specs.First.{first_bad}
use Rattle.lists.specs.Members.{Each}
use Rattle.lists.specs.Joined.{concat_from}
use Rattle.lists.proofs.First.{all_good, good_all}
use Rattle.lists.proofs.Joined.{concat_from_cong, concat_from_parts, each_in_concat_from}
use Rattle.lists.proofs.Has.{Has, has_whole, has_first, has_next, has_part}
use Rattle.refusal.specs.Limits.{longest_cycle}
use Rattle.refusal.specs.Outcome.{Rule, IsClear}
use Rattle.refusal.specs.Outcome.Outcome.{accepted, refused}
use Rattle.refusal.proofs.Outcome.{clear_split, clear_accepted, due-refused}
use Rattle.cycle.specs.Silence.{is_reading}
use Rattle.shape.specs.declared.Shape.{Shape}
use Rattle.shape.specs.Rules.{shape_rules, mask_rules, buffer_rule, area, row_of}
use Rattle.record_format.specs.Layout.{body_of, cycle_field_at, cycle_at, size_field_at, rows_at}
use Rattle.record_format.specs.Layout.{columns_at, mask_field_at, mask_rows_at, mask_columns_at}
use Rattle.record_format.specs.Layout.{row_fields_at, numbers_length, field_length}
use Rattle.record_format.specs.declared.Tag.TheVariants as tags
use Rattle.record_format.specs.Fields.{number, numbers, field, number_at, numbers_at}
use Rattle.record_format.specs.Record.{row_field, record_bytes, record_length}
use Rattle.record_format.specs.Reading.{default_mask_rows, default_mask_columns, cycle_in, rows_in}
use Rattle.record_format.specs.Reading.{columns_in, mask_due, mask_side_in, mask_rows_in}
use Rattle.record_format.specs.Reading.{mask_columns_in, shape_in, row_at, end_at, row_in, image_in}
use Rattle.record_format.specs.Reading.{field_rules, cycle_field_rules, size_field_rules}
use Rattle.record_format.specs.Reading.{body_rules, read_rules, read_due}
use Rattle.record_format.proofs.Fields.{length-numbers, length_row, length-row_field}
use Rattle.record_format.proofs.Fields.{length_row_fields, length_record}
use Rattle.record_format.proofs.FieldRead.{FieldAt, due-given, side_given}
use Rattle.record_format.proofs.Readable.{RowIn, Readable, clear_readable}
use Rattle.record_format.proofs.FieldBytes.{has_numbers, has_field}

module _ (s : Shape) (readings : List ℕ) (input : length readings ≡ area s) where
  -- the record
  abbrev bytes : List ℕ
  bytes = record_bytes s readings

  -- the fields of its rows
  abbrev row_fields : List ℕ
  row_fields = concat_from (row_field s.columns readings) 0 s.rows

  -- the fields, where they stand
  record Parts : Type 0 where
    cycle : Has bytes cycle_field_at (field tags.Cycle (numbers (s.cycle ∷ [])))
    size : Has bytes size_field_at (field tags.Size (numbers (s.rows ∷ s.columns ∷ [])))
    mask : Has bytes mask_field_at (field tags.Mask (numbers (s.mask_rows ∷ s.mask_columns ∷ [])))
    rows : Has bytes row_fields_at row_fields
    end : Has bytes (row_fields_at + s.rows * field_length s.columns) (field tags.End [])

  -- they stand one after the other
  parts : Parts
  unfolding record_bytes field numbers number
  parts =
      let one : List ℕ = field tags.Cycle (numbers (s.cycle ∷ [])) in
      let two : List ℕ = field tags.Size (numbers (s.rows ∷ s.columns ∷ [])) in
      let three : List ℕ = field tags.Mask (numbers (s.mask_rows ∷ s.mask_columns ∷ [])) in
      let five : List ℕ = field tags.End [] in
      let a = has_whole bytes in
      let b = has_next one (two ++ (three ++ (row_fields ++ five))) size_field_at refl a in
      let c = has_next two (three ++ (row_fields ++ five)) mask_field_at refl b in
      let d = has_next three (row_fields ++ five) row_fields_at refl c in
      record {
        cycle = has_first one (two ++ (three ++ (row_fields ++ five))) a;
        size = has_first two (three ++ (row_fields ++ five)) b;
        mask = has_first three (row_fields ++ five) c;
        rows = has_first row_fields five d;
        end = has_next row_fields five (row_fields_at + s.rows * field_length s.columns)
            (omega (
              arith,
              length_row_fields s.columns readings s.rows s.rows (omega arith) input,
            )) d;
      }

  -- field 01 and its number
  cycle_field : FieldAt bytes cycle_field_at tags.Cycle (numbers_length 1)
      × Has bytes cycle_at (numbers (s.cycle ∷ []))
  cycle_field = has_field tags.Cycle (numbers (s.cycle ∷ [])) (numbers_length 1)
      (length-numbers _) parts.cycle

  -- field 02 and its numbers
  size-field : FieldAt bytes size_field_at tags.Size (numbers_length 2)
      × Has bytes rows_at (numbers (s.rows ∷ s.columns ∷ []))
  size-field = has_field tags.Size (numbers (s.rows ∷ s.columns ∷ [])) (numbers_length 2)
      (length-numbers _) parts.size

  -- field 03 and its numbers
  mask_field : FieldAt bytes mask_field_at tags.Mask (numbers_length 2)
      × Has bytes mask_rows_at (numbers (s.mask_rows ∷ s.mask_columns ∷ []))
  mask_field = has_field tags.Mask (numbers (s.mask_rows ∷ s.mask_columns ∷ [])) (numbers_length 2)
      (length-numbers _) parts.mask

  -- two numbers are due in field 03
  mask-due : mask_due bytes ≡ numbers_length 2
  mask-due = due-given bytes (λ e. omega (arith, mask_field.0.length-is))

  -- the two numbers state the mask
  mask_side : (at default : ℕ) → mask_side_in bytes at default ≡ number_at bytes at
  mask_side = side_given bytes (λ e. omega (arith, mask_field.0.length-is))

  -- the five numbers
  pub shape_back : shape_in bytes ≡ s
  unfolding numbers_at
  shape_back =
      let one : number_at bytes cycle_at ∷ [] ≡ s.cycle ∷ [] =
      has_numbers bytes cycle_at (s.cycle ∷ []) 1 refl cycle_field.1 in
      let two : number_at bytes rows_at ∷ number_at bytes columns_at ∷ [] ≡ s.rows ∷ s.columns
      ∷ [] =
      has_numbers bytes rows_at (s.rows ∷ s.columns ∷ []) 2 refl
      size-field.1 in
      let three : number_at bytes mask_rows_at ∷ number_at bytes mask_columns_at ∷ [] ≡ s.mask_rows
      ∷ s.mask_columns ∷ [] =
      has_numbers bytes mask_rows_at (s.mask_rows ∷ s.mask_columns ∷ []) 2 refl mask_field.1 in
      let c : cycle_in bytes ≡ s.cycle = cc in
      let m : rows_in bytes ≡ s.rows = cc in
      let n : columns_in bytes ≡ s.columns = cc in
      let r : mask_rows_in bytes ≡ s.mask_rows = let e =
      mask_side mask_rows_at default_mask_rows in cc in
      let t : mask_columns_in bytes ≡ s.mask_columns = let e =
      mask_side mask_columns_at default_mask_columns in cc in
      rw (c, m, n, r, t)

  -- the columns
  columns_back : columns_in bytes ≡ s.columns
  columns_back = ap (λ (t : Shape). t.columns) shape_back

  -- the rows
  rows_back : rows_in bytes ≡ s.rows
  rows_back = ap (λ (t : Shape). t.rows) shape_back

  -- where row i stands
  row-at : (i : ℕ) → row_at bytes i ≡ row_fields_at + i * field_length s.columns
  unfolding row_at
  row-at i = rw (mask-due, columns_back)

  -- the field of row i is there, with its readings
  row_field_there : (i : ℕ) → i < s.rows
      → FieldAt bytes (row_at bytes i) tags.Row (numbers_length (columns_in bytes))
      × (row_in bytes i ≡ row_of s.columns readings i)
  unfolding row_in
  row_field_there i h =
      let row = row_of s.columns readings i in
      let n = length_row s.columns readings i s.rows h input in
      let here = has_part bytes (row_field s.columns readings)
      (field_length s.columns) 0 s.rows row_fields_at i
      (λ k g j. length-row_field s.columns readings k s.rows (omega arith) input) parts.rows h in
      let f = has_field tags.Row (numbers row) (numbers_length s.columns)
      (omega (arith, length-numbers row)) (rw zero-add at here) in
      rw (row-at i, columns_back) (
        f.0,
        has_numbers bytes
            (body_of (row_fields_at + i * field_length s.columns)) row s.columns n f.1,
      )

  -- all readings
  pub image_back : image_in bytes ≡ readings
  unfolding image_in
  image_back =
      ap (concat_from (row_in bytes) 0) rows_back
      ∙ concat_from_cong (row_in bytes) (row_of s.columns readings) 0 s.rows
      (λ i g h. (row_field_there i (omega arith)).1)
      ∙ concat_from_parts s.columns readings s.rows
      ∙ take_all (s.rows * s.columns) readings (omega arith)

  -- where the end field stands
  end-at : end_at bytes ≡ row_fields_at + s.rows * field_length s.columns
  end-at = row-at (rows_in bytes)
      ∙ ap (λ (m : ℕ). row_fields_at + m * field_length s.columns) rows_back

  -- All tests of the writer were clear.
  module _ (tests : IsClear (shape_rules longest_cycle s))
      (good : length readings ≤ first_bad (is_reading s.cycle) readings) where
    -- the readings of row i are good
    row_good : (i : ℕ) → i < s.rows → RowIn bytes i
    row_good i h =
        let each = all_good (is_reading s.cycle) readings good in
        let whole : concat_from (row_of s.columns readings) 0 s.rows ≡ readings =
        concat_from_parts s.columns readings s.rows
        ∙ take_all (s.rows * s.columns) readings (omega arith) in
        let P : (ℕ → Type 0) = λ y. is_reading s.cycle y ≡ true in
        let row = each_in_concat_from (row_of s.columns readings) P 0 s.rows
        (subst (Each P) (sym whole) each) i (omega arith) (omega arith) in
        let c : cycle_in bytes ≡ s.cycle = ap (λ (t : Shape). t.cycle) shape_back in
        record {
          field = (row_field_there i h).0;
          good = rw (c, (row_field_there i h).1)
              (good_all (is_reading s.cycle) (row_of s.columns readings i) row);
        }

    -- so the bytes are readable
    pub written_readable : (room : ℕ) → area s ≤ room → Readable bytes room
    unfolding record_length
    written_readable room h = record {
      cycle = cycle_field.0;
      size = size-field.0;
      mask = rw (mask-due) mask_field.0;
      shape = subst (λ (t : Shape). IsClear (shape_rules longest_cycle t)) (sym shape_back) tests;
      buffer = subst (λ (t : Shape). area t ≤ room) (sym shape_back) h;
      rows = λ i g. row_good i (omega (arith, rows_back));
      end = rw end-at (has_field tags.End [] 0 refl parts.end).0;
      last = let e = length_record s readings input in rw end-at (omega arith);
    }

    -- and the reader answers with the shape
    pub written_read : (room : ℕ) → area s ≤ room → read_due bytes room ≡ accepted s
    unfolding read_due
    written_read room h = clear_accepted (shape_in bytes) (read_rules bytes room)
        (clear_readable bytes room (written_readable room h)) ∙ ap accepted shape_back

    -- with less room it refuses by 7
    pub written_short : (room : ℕ) → room < area s → read_due bytes room ≡ refused 7 0
    unfolding read_due read_rules
    written_short room h =
        let t = shape_in bytes in
        let before : List Rule =
        cycle_field_rules bytes
        ++ (size_field_rules bytes
        ++ (field_rules bytes mask_field_at tags.Mask (mask_due bytes)
        ++ mask_rules t.mask_rows t.mask_columns)) in
        let enough = clear_readable bytes (area s) (written_readable (area s) (omega arith)) in
        let clear =
        (clear_split before (buffer_rule (area t) (area s) ∷ body_rules bytes) enough).0 in
        due-refused t
        (record {
          before = before;
          by = buffer_rule (area t) room;
          after = body_rules bytes;
          split = refl;
          clear = clear;
          due = lt-ltb room (area t) (subst (λ (u : Shape). room < area u) (sym shape_back) h);
          number = refl;
          place = refl;
        })
