-- What the writer and the reader promise: their answers, and what they leave in lent memory.
-- SPECIFICATION, "Writer" and "Reader".
use Rattle.std.specs.Prelude.{ℕ, ◌≡◌, List, length, Result, Ok, Err}
use Rattle.lists.specs.Front.{at_front}
use Rattle.refusal.specs.declared.Refusal.{Refusal}
use Rattle.refusal.specs.Outcome.{Outcome, outcome, refusal, after}
use Rattle.refusal.specs.Outcome.Outcome.{accepted}
use Rattle.shape.specs.declared.Shape.{Shape}
use Rattle.record_format.specs.Record.{record_bytes, write_due}
use Rattle.record_format.specs.Reading.{image_in, read_due}
use Rattle.record.specs.declared.reader.passed.Record.{Record}

-- the writer: the bytes before the call, and after it (bytes')
pub record WriteCall (s : Shape) (readings bytes : List ℕ) (r : Result ℕ Refusal)
    (bytes' : List ℕ) : Type 0 where
  pub answer : outcome r ≡ write_due s readings (length bytes)
  pub memory : bytes' ≡ after (write_due s readings (length bytes))
      (λ n. at_front (record_bytes s readings) bytes) bytes

-- what the tests of the reader answer, by the shape of the record that has passed them
abbrev pub outcome_shape : Result Record Refusal → Outcome Shape
outcome_shape (Ok r) = accepted r.shape
outcome_shape (Err f) = refusal f

-- the reader: the buffer before the call, and after it (buffer')
pub record ReadCall (bytes buffer : List ℕ) (r : Result Shape Refusal)
    (buffer' : List ℕ) : Type 0 where
  pub answer : outcome r ≡ read_due bytes (length buffer)
  pub memory : buffer'
      ≡ after (read_due bytes (length buffer)) (λ s. at_front (image_in bytes) buffer) buffer
