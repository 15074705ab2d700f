-- The round trip for programs in C and Rust, from the contracts of the exported writer and reader
-- alone: what was written reads back, and what was read is written again byte by byte.
-- SPECIFICATION, "Guarantees".
use Prim.Native.Nat.{ℕ, ◌*◌, ◌≤◌, ◌<◌}
use mathlib.Core.Path.{◌≡◌, ap, ◌∙◌}
use mathlib.Core.List.{List}
use lib.IntN.{pos}
use lib.ListN.{length, take}
use Rattle.lists.specs.Front.{at_front}
use Rattle.refusal.specs.Outcome.{Outcome}
use Rattle.refusal.specs.Outcome.Outcome.{accepted, refused}
use Rattle.shape.specs.declared.Shape.{Shape}
use Rattle.shape.specs.Rules.{area}
use Rattle.record_format.specs.Fields.{AreBytes}
use Rattle.record_format.specs.Record.{record_length}
use Rattle.record_format.specs.Reading.{stated_mask_length}
use Rattle.std.proofs.Common.{Ok}
use Rattle.record.specs.Calls.{WriteCall}
use Rattle.record.proofs.RoundTrip.{call_reads_back, call_reads_back_short, call_writes_back}
use Rattle.circle_median.specs.declared.answers.ValueAnswer.{ValueAnswer}
use Rattle.circle_median.specs.declared.answers.RecordAnswer.{RecordAnswer}
use Rattle.circle_median.specs.Answers.{shape_of, value_of, record_of, natural_value}
use Rattle.circle_median.specs.Calls.{ExportedWriteCall, ExportedReadCall}
use Rattle.circle_median.proofs.Numbers.{write_zero, read_zero}

-- The writer answered 0 with the value n, and the reader is given exactly the first n bytes.
module _ {s : Shape} {readings bytes : List ℕ} {w : ValueAnswer} {n : ℕ} {bytes' buffer : List ℕ}
    {r : RecordAnswer} {buffer' : List ℕ}
    (wrote : ExportedWriteCall s readings bytes w bytes') (zero : w.number ≡ 0)
    (value : w.value ≡ pos n)
    (read : ExportedReadCall (take n bytes') buffer r buffer') where
  -- the writer has written the record
  written : WriteCall s readings bytes (Ok n) bytes'
  written =
      let done = write_zero wrote zero in
      let n-is : record_length s ≡ n = cc done.1 in
      rw n-is at done.0

  -- with room for the readings it answers 0 and the same five numbers, and the buffer begins with
  -- the readings that were written; the rest of it is as it was
  pub exported_reads_back : area s ≤ length buffer
      → (r ≡ record_of (accepted s)) × (buffer' ≡ at_front readings buffer)
  exported_reads_back room = let back =
      call_reads_back written buffer read.memory room in (read.answer ∙ ap record_of back.0, back.1)

  -- with less room it is 7 at 0, and the buffer is as it was
  pub exported_reads_back_short : length buffer < area s
      → (r ≡ record_of (refused 7 0)) × (buffer' ≡ buffer)
  exported_reads_back_short room = let back = call_reads_back_short written buffer read.memory
      room in (read.answer ∙ ap record_of back.0, back.1)

-- the five numbers of an answer as a shape
abbrev pub answered_shape : RecordAnswer → Shape
answered_shape r = shape_of r.cycle r.rows r.columns r.mask_rows r.mask_columns

-- The reader answered 0 on bytes b whose mask field states the length 4, and the writer is given
-- the five numbers and the readings that it gave, with room for as many bytes as b has: it answers
-- 0 with that number, and the bytes begin with b; the rest of them is as it was.
pub exported_writes_back : {b buffer : List ℕ} {r : RecordAnswer} {buffer' bytes : List ℕ}
    {w : ValueAnswer} {bytes' : List ℕ}
    → AreBytes b → ExportedReadCall b buffer r buffer' → r.number ≡ 0 → stated_mask_length b ≡ 4
    → ExportedWriteCall (answered_shape r) (take (r.rows * r.columns) buffer') bytes w bytes'
    → length b ≤ length bytes
    → (w ≡ value_of (accepted (pos (length b)))) × (bytes' ≡ at_front b bytes)
exported_writes_back {bytes = bytes} small read zero four wrote room =
    let done = read_zero read zero in
    let call = rw done.1 at wrote in
    let back = call_writes_back bytes small done.0 four call.memory room in
    (call.answer ∙ ap (λ (o : Outcome ℕ). value_of (natural_value o)) back.0, back.1)
