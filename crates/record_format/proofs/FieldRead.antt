-- Laws of numbers and fields as they are read.
use Rattle.std.proofs.Common.{ℕ, ◌+◌, ◌-◌, ◌≤◌, ◌<◌, ◌≡◌, sym, ◌∙◌, List, [], ◌∷◌, ◌++◌, arith}
use Rattle.std.proofs.Common.{zero-add, le-ltb, eq-eqb, ne_eqb, ltb-false, eqb-true, length, get_or}
use native.Mathlib.Decide.{ℕ_discrete}
use borrow.Author.Tests.{not-false}
use Rattle.lists.proofs.Tabulate.{length-tabulate, get_or-tabulate, tabulate-append}
use Rattle.refusal.specs.Outcome.{IsClear}
use Rattle.record_format.specs.Layout.{head_length, length_of, body_of, numbers_length}
use Rattle.record_format.specs.declared.Tag.{Tag}
use Rattle.record_format.specs.Fields.{tag_byte, number_at, numbers_at}
use Rattle.record_format.specs.Reading.{stated_mask_length, mask_due, mask_side_in, field_rules}

module _ (bytes : List ℕ) (at : ℕ) where
  -- as many numbers are read as are wanted
  pub length-numbers_at : (n : ℕ) → length (numbers_at bytes at n) ≡ n
  unfolding numbers_at
  length-numbers_at n = length-tabulate (λ k. number_at bytes (at + numbers_length k)) 0 n

  -- the number at place k of them
  pub get_or-numbers_at : (n k : ℕ) → k < n
      → get_or (numbers_at bytes at n) k 0 ≡ number_at bytes (at + numbers_length k)
  unfolding numbers_at
  get_or-numbers_at n k h =
      get_or-tabulate (λ k. number_at bytes (at + numbers_length k)) 0 0 n k h ∙ rw zero-add

  -- one number more
  pub numbers_at_last : (n : ℕ) → numbers_at bytes at (n + 1) ≡ numbers_at bytes at n
      ++ (number_at bytes (at + numbers_length n) ∷ [])
  unfolding numbers_at
  numbers_at_last n =
      sym (tabulate-append (λ k. number_at bytes (at + numbers_length k)) 0 n 1) ∙ rw zero-add

-- a field stands at an offset, with its tag, its length and all of its body
pub record FieldAt (bytes : List ℕ) (at : ℕ) (tag : Tag) (due : ℕ) : Type 0 where
  pub tag_is : get_or bytes at 0 ≡ tag_byte tag
  pub length-is : number_at bytes (length_of at) ≡ due
  pub whole : body_of at + due ≤ length bytes

module _ (bytes : List ℕ) (at : ℕ) (tag : Tag) (due : ℕ) where
  -- where the tests of a field are clear, it stands there
  pub field_clear : IsClear (field_rules bytes at tag due) → FieldAt bytes at tag due
  field_clear k =
      let three = ltb-false (length bytes - at) head_length k.0 in
      let body = ltb-false (length bytes - body_of at) due k.1.1.1.0 in
      record {
        tag_is = eqb-true _ (tag_byte tag) (not-false _ k.1.0);
        length-is = eqb-true _ due (not-false _ k.1.1.0);
        whole = omega arith;
      }

  -- where a field stands there, its tests are clear
  pub clear_field : FieldAt bytes at tag due → IsClear (field_rules bytes at tag due)
  clear_field f = (
    le-ltb (length bytes - at) head_length (omega (arith, f.whole)),
    (
      rw (eq-eqb (get_or bytes at 0) (tag_byte tag) f.tag_is),
      (
        rw (eq-eqb (number_at bytes (length_of at)) due f.length-is),
        (le-ltb (length bytes - body_of at) due (omega (arith, f.whole)), tt),
      ),
    ),
  )

-- What field 03 holds, empty or with two numbers.
module _ (bytes : List ℕ) where
  -- of an empty field nothing is due
  pub due_empty : stated_mask_length bytes ≡ 0 → mask_due bytes ≡ 0
  unfolding mask_due
  due_empty e = rw (eq-eqb (stated_mask_length bytes) 0 e)

  -- and the mask is the default
  pub side_empty : stated_mask_length bytes ≡ 0 → (at default : ℕ)
      → mask_side_in bytes at default ≡ default
  unfolding mask_side_in
  side_empty e at default = rw (eq-eqb (stated_mask_length bytes) 0 e)

  -- else two numbers are due
  pub due-given : (stated_mask_length bytes ≡ 0 → ⊥) → mask_due bytes ≡ numbers_length 2
  unfolding mask_due
  due-given e = rw (ne_eqb (stated_mask_length bytes) 0 e)

  -- where nothing is due the field is empty
  pub none-due : mask_due bytes ≡ 0 → stated_mask_length bytes ≡ 0
  none-due e = go (ℕ_discrete (stated_mask_length bytes) 0)
    where
      go : Dec (stated_mask_length bytes ≡ 0) → stated_mask_length bytes ≡ 0
      go (yes i) = i
      go (no i) = absurd (omega (arith, e, due-given i))

  -- where it is not empty it states the mask
  pub side_given : (stated_mask_length bytes ≡ 0 → ⊥) → (at default : ℕ)
      → mask_side_in bytes at default ≡ number_at bytes at
  unfolding mask_side_in
  side_given e at default = rw (ne_eqb (stated_mask_length bytes) 0 e)
