-- The sheet that is written is that of all bytes of the reader, though at most one more of them is
-- read than a
-- record may have.
use Rattle.std.proofs.Common.{ℕ, ◌+◌, ◌≤◌, ◌<◌, ◌≡◌, refl, ap, sym, ◌∙◌, Bool, true, false, nat_lt}
use Rattle.std.proofs.Common.{List, [], ◌++◌, length, take, arith, ltb-true, ltb-false, lt-ltb}
use Rattle.std.proofs.Common.{length-take-le, append-nil, length-append, Some, None, IfSome}
use Rattle.std.proofs.lemmas.List.{take_at}
use Rattle.std.specs.Io.KnownBytes.{Appends, Consumes, IsAtEnd}
use Rattle.std.specs.declared.option.Option.{Option}
use Rattle.refusal.specs.Limits.{most_bytes}
use Rattle.refusal.specs.Outcome.{first_due}
use Rattle.refusal.specs.Outcome.Outcome.{refused}
use Rattle.record_format.specs.Reading.{image_in}
use Rattle.sheet_text.specs.Lines.{most_text}
use Rattle.sheet.specs.declared.SheetAnswer.{SheetAnswer}
use Rattle.sheet.specs.Sheet.{sheet_due, sheet_text, SheetCall}
use Rattle.sheet.proofs.Fits.{sheet_whole}

-- a memory of one byte more than a record may have was not filled, so the reader is at its end
pub short_read : {A : Type 0} (n : ℕ) (memory : List ℕ) → length memory ≡ most_bytes + 1
    → n ≤ length memory → (n < length memory → A)
    → length (take n memory) ≤ most_bytes → A
short_read n memory size count end short = end (omega (arith, length-take-le n memory count))

module _ (readings output work : ℕ) where
  -- the text of a record
  abbrev text_of : List ℕ → List ℕ
  text_of bytes = sheet_text (sheet_due bytes readings output work) (image_in bytes)

  -- by the length alone
  long_refused : (bytes : List ℕ) → most_bytes < length bytes
      → sheet_due bytes readings output work ≡ refused 14 0
  unfolding sheet_due first_due
  long_refused bytes long = rw (lt-ltb most_bytes (length bytes) long) refl

  -- bytes behind a record that is too long make no difference
  text_of-more : (bytes rest : List ℕ) → (length bytes ≤ most_bytes → rest ≡ [])
      → text_of bytes ≡ text_of (bytes ++ rest)
  text_of-more bytes rest end = go (nat_lt most_bytes (length bytes)) refl
    where
      go : (b : Bool) → nat_lt most_bytes (length bytes) ≡ b
          → text_of bytes ≡ text_of (bytes ++ rest)
      go true is =
          let long : most_bytes < length bytes = ltb-true most_bytes (length bytes) is in
          rw (
            long_refused bytes long,
            long_refused (bytes ++ rest) (omega (arith, length-append bytes rest)),
          ) refl
      go false is = ap text_of (sym
          (ap (λ l. bytes ++ l) (end (ltb-false most_bytes (length bytes) is)) ∙ append-nil bytes))

  -- the reader gave `bytes`, and the writer took their text
  pub text_written : (old new out out₁ : Option (List ℕ)) (bytes : List ℕ) → Consumes old new bytes
      → (length bytes ≤ most_bytes → IsAtEnd new)
      → Appends out out₁ (text_of bytes) → IfSome old (λ all. Appends out out₁ (text_of all))
  text_written None new out out₁ bytes took end put = tt
  text_written (Some all) None out out₁ bytes took end put = absurd took
  text_written (Some all) (Some rest) out out₁ bytes took end put =
      rw (took, ← text_of-more bytes rest end) put

-- all of the text is at the front of a memory that is long enough
pub text_front : {bytes readings output work text : List ℕ} {r : SheetAnswer}
    {readings₁ output₁ work₁ text₁ : List ℕ}
    → SheetCall bytes readings output work text r readings₁ output₁ work₁ text₁
    → most_text ≤ length text
    → take (r.length) text₁ ≡ text_of (length readings) (length output) (length work) bytes
text_front {r} sheet room =
    ap (take (r.length)) (sheet_whole sheet room)
    ∙ take_at _ _ (r.length) (omega (arith, sheet.text.after))
