-- Laws of numbers and fields as they are written.
use Rattle.std.proofs.Common.{ℕ, ◌+◌, ◌*◌, ◌≤◌, ◌<◌, ◌≡◌, refl, ap, List, [], ◌∷◌, ◌++◌}
use Rattle.std.proofs.Common.{append_assoc, append-nil, arith, add-one, length, take, get_or}
use Rattle.std.proofs.Common.{length-append, length-take, length-drop, take-suc}
use Rattle.lists.specs.Joined.{concat_from}
use Rattle.lists.proofs.Joined.{length-concat_from}
use Rattle.lists.proofs.Parts.{part_end}
use Rattle.record_format.specs.Layout.{number_length, head_length, numbers_length, field_length}
use Rattle.record_format.specs.declared.Tag.{Tag}
use Rattle.record_format.specs.declared.Tag.TheVariants as tags
use Rattle.record_format.specs.Fields.{tag_byte, number, numbers, field}
use Rattle.shape.specs.declared.Shape.{Shape}
use Rattle.shape.specs.Rules.{area, row_of}
use Rattle.record_format.specs.Record.{row_field, record_bytes, record_length}

-- a number has two bytes
pub length-number : (x : ℕ) → length (number x) ≡ number_length
unfolding number
length-number x = refl

-- several numbers have two bytes each
pub length-numbers : (xs : List ℕ) → length (numbers xs) ≡ numbers_length (length xs)
unfolding numbers
length-numbers [] = refl
length-numbers (x ∷ xs) = rw length-append (omega (arith, length-number x, length-numbers xs))

-- the bytes of a list behind another
pub numbers-append : (xs ys : List ℕ) → numbers (xs ++ ys) ≡ numbers xs ++ numbers ys
unfolding numbers
numbers-append [] ys = refl
numbers-append (x ∷ xs) ys = rw (numbers-append xs ys, append_assoc)

-- one number more
pub numbers_last : (xs : List ℕ) (k : ℕ) → k < length xs
    → numbers (take (k + 1) xs) ≡ numbers (take k xs) ++ number (get_or xs k 0)
unfolding numbers
numbers_last xs k h = rw (add-one k, take-suc xs k 0 h, numbers-append)
    (ap (λ (l : List ℕ). numbers (take k xs) ++ l) (append-nil _))

-- a field is its tag and length, and its body
pub field_is : (tag : Tag) (body : List ℕ) (n : ℕ) → length body ≡ n
    → (tag_byte tag ∷ number n) ++ body ≡ field tag body
unfolding field
field_is tag body n e = rw e

-- the length of a field
pub length-field : (tag : Tag) (body : List ℕ) → length (field tag body) ≡ head_length + length body
unfolding field number
length-field tag body = omega arith

-- Rows of an image.
module _ (n : ℕ) (readings : List ℕ) where
  -- row i has n readings
  pub length_row : (i m : ℕ) → i < m → length readings ≡ m * n → length (row_of n readings i) ≡ n
  length_row i m h e = simp (length-take, length-drop) (omega (arith, part_end i m n h))

  -- so its field is as long as one of n numbers
  pub length-row_field : (i m : ℕ) → i < m → length readings ≡ m * n
      → length (row_field n readings i) ≡ field_length n
  length-row_field i m h e = omega (
    arith,
    length-field tags.Row (numbers (row_of n readings i)),
    length-numbers (row_of n readings i),
    length_row i m h e,
  )

  -- and the fields of the first i rows are i times as long
  pub length_row_fields : (i m : ℕ) → i ≤ m → length readings ≡ m * n
      → length (concat_from (row_field n readings) 0 i) ≡ i * field_length n
  length_row_fields i m h e = length-concat_from (row_field n readings) (field_length n) 0 i
      (λ k g j. length-row_field k m (omega arith) e)

-- the length of a record by the rows and columns
pub record_length_is : (s : Shape) → record_length s ≡ 22 + s.rows * (3 + 2 * s.columns)
unfolding record_length
record_length_is s = omega arith

-- the bytes of a record are as many
pub length_record : (s : Shape) (readings : List ℕ) → length readings ≡ area s
    → length (record_bytes s readings) ≡ record_length s
unfolding record_bytes record_length field numbers number
length_record s readings e =
    let rows = concat_from (row_field s.columns readings) 0 s.rows in
    omega (
      arith,
      length-append rows (field tags.End []),
      length_row_fields s.columns readings s.rows s.rows (omega arith) e,
    )
