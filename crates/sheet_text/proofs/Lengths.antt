-- How long the lines of a sheet are at the most, by the sizes of the image.
use Rattle.std.proofs.Common.{◌≡◌, ℕ, zero, suc, ◌+◌, ◌*◌, ◌/◌, ◌%◌, ◌^◌, ◌≤◌, ◌<◌, Bool, true}
use Rattle.std.proofs.Common.{false, ◌==◌, if◌then◌else◌, ℤ, pos, negsuc, List, [], ◌∷◌, length}
use Rattle.std.proofs.Common.{drop, arith}
use Rattle.std.proofs.Math.Decide.{dec_le}
use Rattle.std.proofs.Math.Nat.{mul-le-mul_left}
use Rattle.std.proofs.lemmas.List.{length-append, length-take}
use Rattle.std.specs.Fmt.{digit_glyph, digits_onto, digits, decimal, signed_decimal}
use Rattle.std.proofs.lemmas.Fmt.{length-decimal-le, length_signed_le}
use Rattle.lists.specs.Members.{Each}
use Rattle.lists.specs.Joined.{concat_from}
use Rattle.lists.proofs.First.{all_good}
use Rattle.refusal.specs.Limits.{longest_cycle, most_rows, most_columns, most_bytes}
use Rattle.refusal.specs.Outcome.{IsClear}
use Rattle.cycle.specs.Silence.{is_reading}
use Rattle.cycle.specs.Step.{drift}
use Rattle.cycle.specs.Calls.{row_rules}
use Rattle.cycle.proofs.Accepted.{drift_clear}
use Rattle.cycle.proofs.SilenceLaws.{heard_not, heard_case, reading_case}
use lib.Signed.{mag}
use Rattle.cycle.proofs.SignedLaws.{mag_size}
use Rattle.cycle.proofs.Sizes.{drift-size}
use Rattle.shape.specs.declared.Shape.{Shape}
use Rattle.shape.specs.Rules.{row_of}
use Rattle.sheet_text.specs.Lines.{most_text, refusal_line, head_line, phase_word, phase_words}
use Rattle.sheet_text.specs.Lines.{row_line, image_lines}
use Rattle.sheet_text.proofs.WordLaws.{word_silent, word_heard}

-- the digits of a number, whatever it is, with as many before them
onto_most : (k n : ℕ) (more : List ℕ) → length (digits_onto k 10 false n more) ≤ k + length more
onto_most zero n more = omega arith
onto_most (suc k) n more =
    go (n / 10 == 0) (digit_glyph false (n % 10)) (λ d. onto_most k (n / 10) (d ∷ more))
  where
    go : (b : Bool) (d : ℕ)
        → ((d : ℕ) → length (digits_onto k 10 false (n / 10) (d ∷ more)) ≤ k + length (d ∷ more))
        → length (if b then d ∷ more else digits_onto k 10 false (n / 10) (d ∷ more)) ≤ suc k
        + length more
    go true d rest = omega arith
    go false d rest = omega (arith, rest d)

-- a number in decimal
decimal_most : (n : ℕ) → length (decimal n) ≤ 64
unfolding digits
decimal_most n = onto_most 64 n []

-- a number in decimal, with a sign
signed_most : (z : ℤ) → length (signed_decimal z) ≤ 65
signed_most (pos n) = omega (arith, decimal_most n)
signed_most (negsuc n) = omega (arith, decimal_most (suc n))

-- the line of a refusal
pub refusal_short : (number place : ℕ) → length (refusal_line number place) ≤ 141
refusal_short number place =
    simp length-append (omega (arith, decimal_most number, decimal_most place))

-- the first line of an image
pub head_short : (s : Shape) → length (head_line s) ≤ 349
head_short s =
    let mask-rows = decimal_most s.mask_rows in
    let mask-columns = decimal_most s.mask_columns in
    simp length-append
    (omega (arith, decimal_most s.cycle, decimal_most s.rows, decimal_most s.columns))

-- a phase has at most n bytes if its number has: a silent one has 1
phase_short : (p : ℕ) {n : ℕ} → length (decimal p) ≤ n → 1 ≤ n → length (phase_word p) ≤ n
phase_short p number sign =
    heard_case p (λ h. rw (word_heard p (heard_not p h)) number) (λ e. rw (word_silent p e) sign)

-- the phases of a row, whatever they are
words_most : (row : List ℕ) → length (phase_words row) ≤ 65 * length row
words_most [] = omega arith
words_most (p ∷ row) =
    simp length-append (omega (arith, phase_short p (decimal_most p) (omega arith), words_most row))

-- the line of a row, whatever its phases are
row_most : (c i : ℕ) (row : List ℕ) → length (row_line c i row) ≤ 142 + 65 * length row
row_most c i row =
    simp length-append (omega (arith, decimal_most i, words_most row, signed_most (drift c row)))

module _ {c : ℕ} (fits : c ≤ longest_cycle) where
  -- five digits and a space for each phase
  words_short : (row : List ℕ) → Each (λ y. is_reading c y ≡ true) row
      → length (phase_words row) ≤ length row * 6
  words_short [] e = omega arith
  words_short (p ∷ row) e =
      let small : p < 10 ^ 5 = reading_case c p e.0 (λ l. omega arith) (λ d. omega arith) in
      simp length-append
      (omega (
        arith,
        phase_short p (length-decimal-le 5 p (omega arith) small (omega arith))
            (omega arith),
        words_short row e.1,
      ))

  -- the line of a row
  row_short : (i : ℕ) (row : List ℕ) (k : ℕ) → i < 10000 → length row ≤ most_columns
      → Each (λ y. is_reading c y ≡ true) row
      → length row * 32767 + 1 < 10 ^ (k + 1) → length (row_line c i row) ≤ 19 + length row * 6 + k
  row_short i row k h n e d =
      let size : mag (drift c row) ≤ length row * 32767 =
      omega (arith, mag_size (drift c row), drift-size fits row e) in
      let number = length_signed_le (k + 1) (drift c row) (omega arith) (omega arith) in
      simp length-append (omega
      (arith, length-decimal-le 4 i (omega arith) h (omega arith), words_short row e, number))

-- of lists that are at most w long
concat_from_short : (f : ℕ → List ℕ) (w a n : ℕ) → ((k : ℕ) → a ≤ k → k < a + n → length (f k) ≤ w)
    → length (concat_from f a n) ≤ n * w
unfolding concat_from
concat_from_short f w a zero e = omega arith
concat_from_short f w a (suc n) e =
    let first = e a (omega arith) (omega arith) in
    let rest = concat_from_short f w (suc a) n (λ k h g. e k (omega arith) (omega arith)) in
    rw length-append (omega arith)

-- the lines of an image, whatever its phases are
pub lines_most : (s : Shape) (phases : List ℕ) → s.rows ≤ most_rows → s.columns ≤ most_columns
    → length (image_lines s phases) < 2 ^ 64
unfolding image_lines
lines_most s phases m n =
    let all = concat_from_short (λ i. row_line s.cycle i (row_of s.columns phases i))
    (142 + 65 * most_columns) 0 s.rows (λ i a b. one i) in
    rw length-append (omega (arith, head_short s, all))
  where
    one : (i : ℕ)
        → length (row_line s.cycle i (row_of s.columns phases i)) ≤ 142 + 65 * most_columns
    one i = omega (
      arith,
      row_most s.cycle i (row_of s.columns phases i),
      length-take s.columns (drop (i * s.columns) phases),
    )

-- The lines of an image whose row fields have at most `most_bytes` bytes: they have at most
-- `most_text`. A row's line has at most three bytes for each byte of its field, and 15 more where
-- it has at most 30 phases, 18 where its drift may be longer; but of such rows there are at most
-- 252.
module _ (s : Shape) (phases : List ℕ) (m : s.rows ≤ most_rows) (n : s.columns ≤ most_columns)
    (bytes : s.rows * (3 + 2 * s.columns) ≤ most_bytes)
    (each : (i : ℕ) → i < s.rows → IsClear (row_rules s.cycle (row_of s.columns phases i))) where
  -- the lines of the rows, where a drift has at most k + 2 bytes
  rows_short : (k : ℕ) → s.columns * 32767 + 1 < 10 ^ (k + 1)
      → length (concat_from (λ i. row_line s.cycle i (row_of s.columns phases i)) 0 s.rows)
      ≤ s.rows * (19 + s.columns * 6 + k)
  rows_short k d =
      concat_from_short (λ i. row_line s.cycle i (row_of s.columns phases i))
      (19 + s.columns * 6 + k) 0 s.rows (λ i a b. one i (omega arith))
    where
      one : (i : ℕ) → i < s.rows
          → length (row_line s.cycle i (row_of s.columns phases i)) ≤ 19 + s.columns * 6 + k
      one i h =
          let p = drift_clear s.cycle (row_of s.columns phases i) (each i h) in
          let l : length (row_of s.columns phases i) ≤ s.columns =
          omega (arith, length-take s.columns (drop (i * s.columns) phases)) in
          omega (
            arith,
            row_short p.cycle_fits i (row_of s.columns phases i) k (omega arith)
                (omega arith) (all_good (is_reading s.cycle) _ p.good) (omega arith),
          )

  -- all lines
  pub lines_short : length (image_lines s phases) ≤ most_text
  unfolding image_lines
  lines_short = rw length-append (go (dec_le s.columns 30))
    where
      go : Dec (s.columns ≤ 30) → length (head_line s) + length
          (concat_from (λ i. row_line s.cycle i (row_of s.columns phases i)) 0 s.rows) ≤ most_text
      go (yes h) = omega (arith, head_short s, rows_short 5 (omega arith))
      go (no h) =
          let wide : s.rows * 31 ≤ s.rows * s.columns = mul-le-mul_left s.rows (omega arith) in
          omega (arith, head_short s, rows_short 8 (omega arith))
