-- Bytes that hold numbers and fields at an offset: what is written there is what is read there, and
-- back.
use Rattle.std.proofs.Common.{ℕ, zero, suc, ◌+◌, ◌*◌, ◌/◌, ◌%◌, ◌≤◌, ◌<◌, ◌≡◌, refl, ap, sym, subst}
use Rattle.std.proofs.Common.{◌∙◌, List, [], ◌∷◌, ◌++◌, append-nil, arith, add-one, length, get_or}
use Rattle.std.proofs.Common.{ext_get_or}
use Rattle.lists.proofs.Has.{Has, has_none, has_one, has_head, has_room, has_first, has_next}
use Rattle.lists.proofs.Has.{has_join}
use Rattle.record_format.specs.Layout.{number_length, length_of, body_of, numbers_length}
use Rattle.record_format.specs.declared.Tag.{Tag}
use Rattle.record_format.specs.Fields.{AreBytes, tag_byte, number, numbers, field, number_at}
use Rattle.record_format.specs.Fields.{numbers_at}
use Rattle.record_format.proofs.Fields.{length-number, length-numbers, numbers-append}
use Rattle.record_format.proofs.FieldRead.{FieldAt, length-numbers_at, get_or-numbers_at}
use Rattle.record_format.proofs.FieldRead.{numbers_at_last}

-- From what is written to what is read.

-- a number
pub has_number : {b : List ℕ} {at : ℕ} (x : ℕ) → Has b at (number x) → number_at b at ≡ x
unfolding number number_at
has_number {b} {at} x h =
    let high = has_head (x / 256) (x % 256 ∷ []) 0 h in
    let low = has_head (x % 256) [] 0 (has_next (x / 256 ∷ []) (x % 256 ∷ []) (at + 1) refl h) in
    omega arith

-- each of several numbers
has_number_of : (b : List ℕ) (at : ℕ) (xs : List ℕ) → Has b at (numbers xs) → (k : ℕ)
    → k < length xs → number_at b (at + numbers_length k) ≡ get_or xs k 0
unfolding numbers
has_number_of b at [] h k g = absurd (omega arith)
has_number_of b at (x ∷ xs) h zero g =
    ap (number_at b) (omega arith) ∙ has_number x (has_first (number x) (numbers xs) h)
has_number_of b at (x ∷ xs) h (suc k) g =
    ap (number_at b) (omega arith)
    ∙ has_number_of b (at + number_length) xs (has_next (number x) (numbers xs) (at + number_length)
    (omega (arith, length-number x)) h) k (omega arith)

-- all of them
pub has_numbers : (b : List ℕ) (at : ℕ) (xs : List ℕ) (n : ℕ) → length xs ≡ n
    → Has b at (numbers xs) → numbers_at b at n ≡ xs
has_numbers b at xs n e h =
    ext_get_or 0 (numbers_at b at n) xs (length-numbers_at b at n ∙ sym e)
    (λ k g. let i : k < n = omega (arith, length-numbers_at b at n) in get_or-numbers_at b at n k i
    ∙ has_number_of b at xs h k (omega arith))

-- a field and its body
pub has_field : {b : List ℕ} {at : ℕ} (tag : Tag) (body : List ℕ) (n : ℕ) → length body ≡ n
    → Has b at (field tag body)
    → FieldAt b at tag n × Has b (body_of at) body
unfolding field
has_field {b} {at} tag body n e h =
    let tail = has_next (tag_byte tag ∷ []) (number (length body) ++ body) (length_of at) refl h in
    let rest = has_next (number (length body)) body (body_of at)
    (omega (arith, length-number (length body))) tail in (
      record {
        tag_is = has_head (tag_byte tag) (number (length body) ++ body) 0 h;
        length-is = has_number (length body) (has_first (number (length body)) body tail) ∙ e;
        whole = omega (arith, has_room body rest);
      },
      rest,
    )

-- From what is read to what is written, where each element is a byte.

module _ (b : List ℕ) (bytes : AreBytes b) where
  -- a number
  pub number_there : (at : ℕ) → at + number_length ≤ length b → Has b at (number (number_at b at))
  unfolding number number_at AreBytes
  number_there at h =
      let x = get_or b at 0 in
      let y = get_or b (at + 1) 0 in
      let high : x ≡ (x * 256 + y) / 256 = omega (arith, bytes (at + 1)) in
      let low : y ≡ (x * 256 + y) % 256 = omega (arith, bytes (at + 1)) in
      has_join ((x * 256 + y) / 256 ∷ []) ((x * 256 + y) % 256 ∷ []) (at + 1) refl
      (subst (λ (z : ℕ). Has b at (z ∷ [])) high (has_one b at 0 (omega arith)))
      (subst (λ (z : ℕ). Has b (at + 1) (z ∷ [])) low (has_one b (at + 1) 0 (omega arith)))

  -- n numbers
  pub numbers_there : (at n : ℕ) → at + numbers_length n ≤ length b
      → Has b at (numbers (numbers_at b at n))
  unfolding numbers_at numbers
  numbers_there at zero h = has_none b at (omega arith)
  numbers_there at (suc n) h =
      let x = number_at b (at + numbers_length n) in
      let before = numbers_at b at n in
      let e : numbers_at b at (suc n) ≡ before ++ (x ∷ []) =
      ap (numbers_at b at) (sym (add-one n)) ∙ numbers_at_last b at n in
      let f : numbers (numbers_at b at (suc n)) ≡ numbers before ++ number x =
      ap numbers e ∙ numbers-append before (x ∷ [])
      ∙ ap (λ (l : List ℕ). numbers before ++ l) (append-nil (number x)) in
      subst (Has b at) (sym f)
      (has_join (numbers before) (number x) (at + numbers_length n)
      (omega (arith, length-numbers before, length-numbers_at b at n))
      (numbers_there at n (omega arith)) (number_there (at + numbers_length n) (omega arith)))

  -- a field, by its body
  pub field_there : (at : ℕ) (tag : Tag) (body : List ℕ) → FieldAt b at tag (length body)
      → Has b (body_of at) body → Has b at (field tag body)
  unfolding field
  field_there at tag body f h =
      has_join (tag_byte tag ∷ []) (number (length body) ++ body) (length_of at) refl
      (subst (λ (z : ℕ). Has b at (z ∷ [])) f.tag_is (has_one b at 0 (omega (arith, f.whole))))
      (has_join (number (length body)) body (body_of at)
      (omega (arith, length-number (length body)))
      (subst (λ (z : ℕ). Has b (length_of at) (number z)) f.length-is
      (number_there (length_of at) (omega (arith, f.whole)))) h)
