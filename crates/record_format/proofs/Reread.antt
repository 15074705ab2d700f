-- A record that was read, with two numbers in its mask field, is written again as it was: the bytes
-- hold each field that would be written, one after the other, and end with the last.
-- SPECIFICATION, "Guarantees".
use Rattle.std.proofs.Common.{ℕ, ◌+◌, ◌*◌, ◌≤◌, ◌<◌, ◌≡◌, refl, ap, sym, ◌∙◌, List, [], ◌∷◌, ◌++◌}
use Rattle.std.proofs.Common.{arith, zero-add, eq-eqb, le-ltb, length}
use Rattle.lists.specs.First.{first_bad}
use Rattle.lists.specs.Joined.{concat_from}
use Rattle.lists.proofs.Has.{Has, has_whole, has_taken, has_join, has_none, has_all, has_part}
use Rattle.lists.proofs.Has.{parts_hold}
use Rattle.refusal.specs.Limits.{longest_cycle}
use Rattle.refusal.specs.Outcome.Outcome.{accepted}
use Rattle.refusal.proofs.Outcome.{clear_join, clear_accepted}
use Rattle.cycle.specs.Silence.{is_reading}
use Rattle.shape.specs.Rules.{shape_rules, area, row_of}
use Rattle.record_format.specs.Layout.{body_of, cycle_field_at, size_field_at, mask_field_at}
use Rattle.record_format.specs.Layout.{mask_rows_at, mask_columns_at, row_fields_at, numbers_length}
use Rattle.record_format.specs.Layout.{field_length}
use Rattle.record_format.specs.declared.Tag.{Tag}
use Rattle.record_format.specs.declared.Tag.TheVariants as tags
use Rattle.record_format.specs.Fields.{AreBytes, number, numbers, field, number_at, numbers_at}
use Rattle.record_format.specs.Record.{row_field, record_bytes, record_length, call_rules}
use Rattle.record_format.specs.Record.{write_rules, write_due}
use Rattle.record_format.specs.Reading.{default_mask_rows, default_mask_columns, cycle_in, rows_in}
use Rattle.record_format.specs.Reading.{columns_in, stated_mask_length, mask_due, mask_side_in}
use Rattle.record_format.specs.Reading.{mask_rows_in, mask_columns_in, shape_in, row_at, end_at}
use Rattle.record_format.specs.Reading.{row_in, image_in}
use Rattle.record_format.proofs.Fields.{length-numbers, length-row_field, length_row_fields}
use Rattle.record_format.proofs.Fields.{length_record}
use Rattle.record_format.proofs.FieldRead.{FieldAt, due-given, side_given, length-numbers_at}
use Rattle.record_format.proofs.Readable.{Readable, length-row_in, length_image, image_good}
use Rattle.record_format.proofs.FieldBytes.{numbers_there, field_there}

module _ (b : List ℕ) (small : AreBytes b) (room : ℕ) (r : Readable b room)
    (four : stated_mask_length b ≡ numbers_length 2) where
  -- two numbers are due in field 03
  mask-due : mask_due b ≡ numbers_length 2
  mask-due = due-given b (λ e. omega (arith, four))

  -- the two numbers state the mask
  mask_side : (at default : ℕ) → mask_side_in b at default ≡ number_at b at
  mask_side = side_given b (λ e. omega (arith, four))

  -- a field of n numbers
  numbers-field : (at : ℕ) (tag : Tag) (n : ℕ) → FieldAt b at tag (numbers_length n)
      → Has b at (field tag (numbers (numbers_at b (body_of at) n)))
  numbers-field at tag n f =
      let xs = numbers_at b (body_of at) n in
      let e : numbers_length n ≡ length (numbers xs) =
      omega (arith, length-numbers xs, length-numbers_at b (body_of at) n) in
      field_there b small at tag (numbers xs) (rw (← e) f)
      (numbers_there b small (body_of at) n (omega (arith, f.whole)))

  -- field 01
  has_cycle : Has b cycle_field_at (field tags.Cycle (numbers (cycle_in b ∷ [])))
  unfolding numbers_at
  has_cycle = numbers-field cycle_field_at tags.Cycle 1 r.cycle

  -- field 02
  has_size : Has b size_field_at (field tags.Size (numbers (rows_in b ∷ columns_in b ∷ [])))
  unfolding numbers_at
  has_size = numbers-field size_field_at tags.Size 2 r.size

  -- field 03
  has_mask : Has b mask_field_at
      (field tags.Mask (numbers (mask_rows_in b ∷ mask_columns_in b ∷ [])))
  unfolding numbers_at
  has_mask = rw
      (mask_side mask_rows_at default_mask_rows, mask_side mask_columns_at default_mask_columns)
      (numbers-field mask_field_at tags.Mask 2 (rw (mask-due) at r.mask))

  -- row i of the image that was read
  row_is : (i : ℕ) → i < rows_in b → row_of (columns_in b) (image_in b) i ≡ row_in b i
  unfolding image_in
  row_is i h =
      let image = concat_from (row_in b) 0 (rows_in b) in
      let here = has_part image (row_in b) (columns_in b) 0 (rows_in b) 0 i
      (λ k g j. length-row_in b k) (has_whole image) h in
      has_taken (row_in b i) (columns_in b) (rw (zero-add, zero-add) at here) (length-row_in b i)

  -- where row i stands
  row-at : (i : ℕ) → row_at b i ≡ row_fields_at + i * field_length (columns_in b)
  unfolding row_at
  row-at i = rw (mask-due)

  -- field 04 of row i
  has_row : (i : ℕ) → i < rows_in b → Has b (row_fields_at + i * field_length (columns_in b))
      (row_field (columns_in b) (image_in b) i)
  unfolding row_in
  has_row i h = rw (row_is i h, ← (row-at i))
      (numbers-field (row_at b i) tags.Row (columns_in b) (r.rows i h).field)

  -- the fields of all rows
  has_rows : Has b row_fields_at (concat_from (row_field (columns_in b) (image_in b)) 0 (rows_in b))
  has_rows =
      parts_hold b (row_field (columns_in b) (image_in b)) (field_length (columns_in b))
      (rows_in b) row_fields_at
      (λ i h. length-row_field (columns_in b) (image_in b) i (rows_in b) h (length_image b))
      (omega (arith, r.mask.whole, mask-due)) has_row

  -- field FF
  has_end : Has b (row_fields_at + rows_in b * field_length (columns_in b)) (field tags.End [])
  has_end = rw (← (row-at (rows_in b))) (field_there b small (end_at b) tags.End [] r.end
      (has_none b (body_of (end_at b)) (omega (arith, r.end.whole))))

  -- the record has the length of the bytes
  pub length_back : record_length (shape_in b) ≡ length b
  unfolding record_length
  length_back = omega (arith, row-at (rows_in b), r.end.whole, r.last)

  -- the record is the bytes
  pub bytes_back : record_bytes (shape_in b) (image_in b) ≡ b
  unfolding record_bytes field numbers number
  bytes_back =
      let one : List ℕ = field tags.Cycle (numbers (cycle_in b ∷ [])) in
      let two : List ℕ = field tags.Size (numbers (rows_in b ∷ columns_in b ∷ [])) in
      let three : List ℕ = field tags.Mask (numbers (mask_rows_in b ∷ mask_columns_in b ∷ [])) in
      let rows : List ℕ = concat_from (row_field (columns_in b) (image_in b)) 0 (rows_in b) in
      let five : List ℕ = field tags.End [] in
      let m = length_row_fields (columns_in b) (image_in b) (rows_in b) (rows_in b) (omega arith)
      (length_image b) in
      let d = has_join rows five (row_fields_at + rows_in b * field_length (columns_in b))
      (omega arith) has_rows has_end in
      let c = has_join three (rows ++ five) row_fields_at refl has_mask d in
      let a = has_join two (three ++ (rows ++ five)) mask_field_at refl has_size c in
      let all = has_join one (two ++ (three ++ (rows ++ five))) size_field_at refl has_cycle a in
      sym (has_all b (one ++ (two ++ (three ++ (rows ++ five)))) all
      (length_record (shape_in b) (image_in b) (length_image b) ∙ length_back))

  -- the writer answers with that length
  pub read_written : (space : ℕ) → length b ≤ space
      → write_due (shape_in b) (image_in b) space ≡ accepted (length b)
  unfolding write_due
  read_written space h =
      let s = shape_in b in
      let image = image_in b in
      clear_accepted (record_length s) (write_rules s image space)
      (clear_join (shape_rules longest_cycle s) (call_rules s image space) r.shape (
        rw (eq-eqb (length image) (area s) (length_image b)),
        (
          le-ltb space (record_length s) (omega (arith, length_back)),
          (
            le-ltb (first_bad (is_reading (cycle_in b)) image) (length image) (image_good b room r),
            tt,
          ),
        ),
      ))
      ∙ ap accepted length_back
